use Rattle.std.proofs.Common.{◌≡◌, Err, inl, inr, rules}
use Rattle.rpki_command.proofs.inputs.read_inputs.Goals as goal

pub returns-in_err-previous-clause-unread : goal.returns-in_err-previous-clause-unread
returns-in_err-previous-clause-unread g c =
    let is : c.from_residual-in_err-previous.result ≡ Err c.in_err-previous.field-0.0 = search rules in
    rw is (λ known. inr (inr (inr (inl (c.in_err-previous.ensures.unread known)))))

pub returns-in_err-revoked-clause-unread : goal.returns-in_err-revoked-clause-unread
returns-in_err-revoked-clause-unread g c =
    let is : c.from_residual-in_err-revoked.result ≡ Err c.in_err-revoked.field-0.0 = search rules in
    rw is (λ known. inr (inr (inr (inr (inl (c.in_err-revoked.ensures.unread known))))))

pub returns-in_err-others-clause-unread : goal.returns-in_err-others-clause-unread
returns-in_err-others-clause-unread g c =
    let is : c.from_residual-in_err-others.result ≡ Err c.in_err-others.field-0.0 = search rules in
    let unread = rw c.deref.ensures.value at c.in_err-others.ensures.unread in
    rw is (λ known. inr (inr (inr (inr (inr (unread known))))))
