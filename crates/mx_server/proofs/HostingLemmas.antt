-- Lines of a file of rooms, one after the other.
use Rattle.std.specs.Prelude.{◌≡◌, ℕ, true, false, not, List, ◌∷◌, filter}
use Rattle.std.proofs.Common.{◌∙◌, ap, cond, inl, inr, subst, sym}
use Rattle.mx_pdu.specs.Offers.{Judge}
use Rattle.mx_world.specs.View.{WorldView}
use Rattle.mx_log.specs.Lines.{lines_of}
use Rattle.mx_server.specs.Hosting.{AreHosted, HostsNot, IsDone, StopsAt, is_blank, lines_to_host}

module _ (text line after : List ℕ) (lines : lines_of text ≡ line ∷ lines_of after) where
  passed : is_blank line ≡ true → lines_to_host text ≡ lines_to_host after
  passed blank =
      ap (filter (λ l. not (is_blank l))) lines
      ∙ ap (λ b. cond (not b) (line ∷ lines_to_host after) (lines_to_host after)) blank

  taken : is_blank line ≡ false → lines_to_host text ≡ line ∷ lines_to_host after
  taken full =
      ap (filter (λ l. not (is_blank l))) lines
      ∙ ap (λ b. cond (not b) (line ∷ lines_to_host after) (lines_to_host after)) full

  module _ {K L : Type 0} (judges : Judge) (old next last : WorldView K L) where
    pub hosted_before : IsDone judges line old next → AreHosted judges (lines_to_host after) next last
        → AreHosted judges (lines_to_host text) old last
    hosted_before (inl p) h =
        subst (λ ls. AreHosted judges ls old last) (sym (passed p.0)) (subst (λ s. AreHosted judges (lines_to_host after) s last) p.1 h)
    hosted_before (inr p) h = subst (λ ls. AreHosted judges ls old last) (sym (taken p.0)) (next, (p.1, h))

    pub stopped_before : IsDone judges line old next → StopsAt judges (lines_to_host after) next last
        → StopsAt judges (lines_to_host text) old last
    stopped_before (inl p) h =
        subst (λ ls. StopsAt judges ls old last) (sym (passed p.0)) (subst (λ s. StopsAt judges (lines_to_host after) s last) p.1 h)
    stopped_before (inr p) h = subst (λ ls. StopsAt judges ls old last) (sym (taken p.0)) (inr (next, (p.1, h)))

    pub stops_here : (is_blank line ≡ false) × HostsNot judges line old last → StopsAt judges (lines_to_host text) old last
    stops_here p = subst (λ ls. StopsAt judges ls old last) (sym (taken p.0)) (inl p.1)
