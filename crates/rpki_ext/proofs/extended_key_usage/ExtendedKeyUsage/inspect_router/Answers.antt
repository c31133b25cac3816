use Rattle.std.proofs.Common.{arith, ◌≡◌, true, false, refl, sym, ap, subst, ◌∙◌}
use Rattle.std.proofs.lemmas.Bool.{false≢true}
use Rattle.rpki_der.specs.Place.{remaining}
use Rattle.rpki_der.specs.Values.{AreOctets}
use Rattle.rpki_der.specs.Folding.{over}
use Rattle.rpki_der.specs.Primitives.Reading.{oid_at}
use Rattle.rpki_der.proofs.Octets.{some, some_is, nothing}
use Rattle.rpki_ext.specs.RouterPurposes.{or_router}
use Rattle.rpki_ext.proofs.RouterPurposes.{found_is, is_found}
use Rattle.rpki_ext.proofs.extended_key_usage.ExtendedKeyUsage.inspect_router.Goals as goal

pub returns-in-Some-clause-ok : goal.returns-in-Some-clause-ok
returns-in-Some-clause-ok c =
    let same : remaining c.cursor.result ≡ c.args.self.now = grind (arith, c.cursor.ensures.all, c.self.view_is) in (
      λ e. found_is c.args.self.now (subst AreOctets c.self.view_is c.cursor.ensures.octets)
          (ap (over oid_at or_router false) (sym same) ∙ sym c.in-Some.ensures ∙ ap some c.if-found.true),
      λ h. refl,
    )

pub returns-in_default-clause-ok : goal.returns-in_default-clause-ok
returns-in_default-clause-ok c =
    let same : remaining c.cursor.result ≡ c.args.self.now = grind (arith, c.cursor.ensures.all, c.self.view_is) in (
      λ e. absurd (false≢true e),
      λ h. sym c.if-found.false ∙
          some_is c.in-Some.found true
          (c.in-Some.ensures ∙ ap (over oid_at or_router false) same ∙ is_found c.args.self.now h),
    )

pub returns-in_default-2-clause-ok : goal.returns-in_default-2-clause-ok
returns-in_default-2-clause-ok c =
    let same : remaining c.cursor.result ≡ c.args.self.now = grind (arith, c.cursor.ensures.all, c.self.view_is) in (
      λ e. absurd (false≢true e),
      λ h. nothing true
          (c.in_default.ensures ∙ ap (over oid_at or_router false) same ∙ is_found c.args.self.now h),
    )
