-- An event that was judged, and the events that the levels of the state come from.
use Rattle.std.specs.Prelude.{refl}
use Rattle.std.specs.Coded.{Coded, code_by, coded×}
use Rattle.mx_redact.specs.Fields.{Event}
use Rattle.mx_pdu.specs.DataCode.{data_code}
use Rattle.mx_levels.specs.Sources.{Sources, sources_code}

pub record Judged : Type 0 where
  pub event : Event
  pub sources : Sources

abbrev pub judged_code : Coded Judged
judged_code = code_by (Event × Sources) (coded× data_code sources_code) (λ j. (j.event, j.sources)) (λ p. record { event = p.0; sources = p.1 }) (λ _. refl)
