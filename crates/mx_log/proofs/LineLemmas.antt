-- Lines by their values and their keys.
use Rattle.std.proofs.Common.{◌≡◌, ℕ, true, if◌then◌else◌, List, [], codes, refl, ap, ◌∙◌}
use Rattle.std.specs.Prelude.{Option, Some, None, option_map, option_and_then, unwrap_or}
use Prim.Native.String.{String}
use Rattle.serde_json.specs.Data.{Data}
use Rattle.serde_json.specs.Find.{as_str}
use Rattle.mx_redact.specs.Fields.{Event, field}
use Rattle.mx_book.specs.declared.transaction_keys.TransactionKey.{TransactionKey}
use Rattle.mx_log.specs.Lines.{Line, bad_line, has_only, formed, or_bad, key_in, host_of, host_form, opening, events_of, open_in, open_form, body_of, line_in, read_line}
use Rattle.mx_pdu.specs.declared.offering.Offered.{Offered}
use Rattle.mx_requests.specs.Requests.{json_of}

-- ---- a line that is JSON, and one that is not

pub reads : (offer : Event → Offered) (line : List ℕ) (d : Data) → json_of line ≡ Some d → read_line offer line ≡ line_in offer d
unfolding read_line
reads offer line d e = ap (λ o. unwrap_or (option_map (line_in offer) o) bad_line) e

pub reads_nothing : (offer : Event → Offered) (line : List ℕ) → json_of line ≡ None → read_line offer line ≡ bad_line
unfolding read_line
reads_nothing offer line e = ap (λ o. unwrap_or (option_map (line_in offer) o) bad_line) e

-- ---- forms

-- an object with no other keys has the form that its values have
pub has_form : (names : String) (d : Data) (line : Option Line) → has_only names d ≡ true → formed names d line ≡ or_bad line
has_form names d line only = ap (λ b. if b then or_bad line else bad_line) only

pub hosts : (offer : Event → Offered) (d : Data) (event : Option Event) → has_only "step event" d ≡ true → field (codes "event") d ≡ event
    → host_form offer d ≡ or_bad (option_map (host_of offer) event)
hosts offer d event only at =
    has_form "step event" d (option_map (host_of offer) (field (codes "event") d)) only
    ∙ ap (λ o. or_bad (option_map (host_of offer) o)) at

pub opens : (offer : Event → Offered) (d : Data) (key : TransactionKey) (events : Option Data) → has_only "step origin txn pdus" d ≡ true
    → key_in d ≡ Some key → field (codes "pdus") d ≡ events
    → open_form offer d ≡ or_bad (option_map (opening key) (option_and_then (events_of offer) events))
opens offer d key events only named at =
    has_form "step origin txn pdus" d (open_in offer d) only
    ∙ ap (λ o. or_bad (option_and_then (λ k. option_map (opening k) (option_and_then (events_of offer) (field (codes "pdus") d))) o)) named
    ∙ ap (λ o. or_bad (option_map (opening key) (option_and_then (events_of offer) o))) at

-- ---- the body of a request

present : (text : Option (List ℕ)) → option_map (λ body. unwrap_or body []) (option_map Some text) ≡ text
present None = refl
present (Some s) = refl

pub body_there : (d : Data) → body_of (Some d) ≡ as_str d
body_there d = present (as_str d)
