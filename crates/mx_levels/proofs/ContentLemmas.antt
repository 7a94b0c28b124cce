-- What rules read of a content, as in the whole content.
use Rattle.std.proofs.Common.{◌≡◌, ℕ, ap, ◌∙◌, true, List}
use Rattle.std.specs.Prelude.{option_and_then, unwrap_or}
use Rattle.serde_json.specs.Data.{Data, null}
use Rattle.serde_json.specs.Find.{as_str}
use Rattle.mx_redact.specs.Fields.{Event, text_field}
use Rattle.mx_pdu.specs.Event.{content_of}
use Rattle.mx_pdu.specs.RuleContent.{is_rule_key, rule_content}
use Rattle.mx_pdu.proofs.RuleContentLemmas.{field-rule_content}
use Rattle.mx_levels.specs.Level.{read_level, level_at, entry_at}

module _ (key : List ℕ) (c : Data) (e : Event) (is : c ≡ rule_content (content_of e)) (read : is_rule_key key ≡ true) where
  pub text_field-content : text_field key c ≡ text_field key (content_of e)
  text_field-content = ap (text_field key) is ∙ ap (option_and_then as_str) (field-rule_content key (content_of e) read)

  pub level_at-content : level_at key c ≡ level_at key (content_of e)
  level_at-content = ap (level_at key) is ∙ ap (option_and_then read_level) (field-rule_content key (content_of e) read)

  pub entry_at-content : (k : List ℕ) → entry_at key k c ≡ entry_at key k (content_of e)
  entry_at-content k = ap (entry_at key k) is ∙ ap (λ o. level_at k (unwrap_or o null)) (field-rule_content key (content_of e) read)
