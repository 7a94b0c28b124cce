pub mod InOrder
pub mod Appending
pub mod Contents
pub mod OpenTexts
pub mod EventRead
pub mod BodiesRead
