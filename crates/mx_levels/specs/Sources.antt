-- The events that the levels of a room come from.
use Rattle.std.specs.Prelude.{Option, refl}
use Rattle.std.specs.Coded.{Coded, code_by, coded×, coded_option}
use Rattle.mx_redact.specs.Fields.{Event}
use Rattle.mx_pdu.specs.DataCode.{data_code}

-- the create event and the power levels event, where they are there
pub record Sources : Type 0 where
  pub create : Option Event
  pub power : Option Event

abbrev pub sources_code : Coded Sources
sources_code =
    code_by (Option Event × Option Event) (coded× (coded_option data_code) (coded_option data_code))
    (λ s. (s.create, s.power)) (λ p. record { create = p.0; power = p.1 }) (λ _. refl)
