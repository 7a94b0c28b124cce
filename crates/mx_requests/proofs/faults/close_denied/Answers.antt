use Rattle.std.proofs.Common.{◌≡◌, ◌++◌, codes, sym, ap, subst, ◌∙◌, append_assoc}
use Rattle.mx_auth.specs.Versions.{version_text}
use Rattle.mx_requests.specs.Bodies.{denied_end}
use Rattle.mx_requests.proofs.faults.close_denied.Goals as goal

pub returns-in-WrongVersion : goal.returns-in-WrongVersion
returns-in-WrongVersion g c = λ taken had.
    let key = codes ",\"room_version\":\"" in
    let close = codes "\"}" in
    let text : c.as_bytes.result.now ≡ version_text c.in-WrongVersion.version = c.as_bytes.ensures.value ∙ c.text.ensures in
    subst (g.S.TextSink.has_taken c.put-in-WrongVersion-2.new.self)
    (append_assoc (taken ++ key) c.as_bytes.result.now close ∙ append_assoc taken key (c.as_bytes.result.now ++ close)
    ∙ ap (λ t. taken ++ (key ++ (t ++ close))) text
    ∙ ap (λ denied. taken ++ denied_end denied) (sym c.in-WrongVersion.is))
    (c.put-in-WrongVersion-2.ensures _ (c.put-in-WrongVersion.ensures _ (c.put.ensures taken had)))
