use Rattle.std.proofs.Common.{sym, subst}
use Rattle.rpki_parts.specs.declared.key.PublicKeyFormat.{PublicKeyFormat}
use Rattle.rpki_keys.specs.KeyForms.{AreOfForm}
use Rattle.rpki_keys.proofs.OneForm.{one-rsa, one-point}
use Rattle.rpki_keys.proofs.form.form_of.Goals as goal

pub returns-in-Rsa-clause-only : goal.returns-in-Rsa-clause-only
returns-in-Rsa-clause-only c = λ form h.
    one-rsa c.args.key.now.bits form c.rsa_form.result
    (subst (λ (f : PublicKeyFormat). AreOfForm form f c.args.key.now.bits) (sym c.in-Rsa.ensures) h)
    (rw c.bits_cursor.ensures at c.rsa_form.ensures)

pub returns-in-EcdsaP256-clause-only : goal.returns-in-EcdsaP256-clause-only
returns-in-EcdsaP256-clause-only c = λ form h.
    one-point c.args.key.now.bits form c.point_form.result
    (subst (λ (f : PublicKeyFormat). AreOfForm form f c.args.key.now.bits) (sym c.in-EcdsaP256.ensures) h)
    (rw c.bits.ensures.same at c.point_form.ensures)
