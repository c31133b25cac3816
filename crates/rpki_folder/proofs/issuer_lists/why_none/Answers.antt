use Rattle.std.specs.Prelude.{Contains}
use Rattle.std.proofs.Common.{◌≡◌, ◌+◌, ◌<◌, suc, List, length, map, take, refl, sym, ap, subst, arith}
use Rattle.std.proofs.lemmas.Bool.{false≢true}
use Rattle.std.proofs.lemmas.List.{length-map, nil_from_length, take_all}
use Rattle.rpki_cert.specs.Verification.{context, IsSignedBy}
use Rattle.rpki_crl.proofs.Loops.{taken_more}
use Rattle.rpki_crl.specs.Lists.{CrlState}
use Rattle.rpki_path.proofs.LatestLists.{each_more}
use Rattle.rpki_folder.proofs.PickedLists.{in_mapped}
use Rattle.rpki_folder.proofs.IssuersList.{none_named, one_unsigned, one_begun, all_signed}
use Rattle.rpki_folder.proofs.issuer_lists.why_none.Goals.{then-has_begun-via-then-has_begun}
use Rattle.rpki_folder.proofs.issuer_lists.why_none.Goals.{then-has_begun-via-else-has_begun+then-not-is_signed_by}
use Rattle.rpki_folder.proofs.issuer_lists.why_none.Goals as goal

pub returns-then-is_empty : goal.returns-then-is_empty
returns-then-is_empty g c = λ names strict are cert below none.
    let issuer = c.args.issuer.now.cert.fields in
    let named = c.args.named.now in
    let zero : length named ≡ 0 = grind (arith, c.is_empty.ensures, c.if-is_empty.true) in
    let empty = ap (λ rs. map (λ r. r.now) rs) (nil_from_length named zero) in
    c.why_unnamed.ensures names c.args.now strict
    (none_named names c.args.lists.now issuer (map (λ r. r.now) named) are empty) cert below none

pub returns-then-has_begun : goal.returns-then-has_begun
returns-then-has_begun g c = λ names strict are cert below none.
    let x = context (g.V.Verifier.verifies c.args.verifier.now) c.args.now strict in
    let issuer = c.args.issuer.now.cert.fields in
    let named = c.args.named.now in
    let list = c.list-item.result in
    let at = in_mapped (λ r. r.now) named c.loop-list.list-index list c.loop-list-test.true c.list-item.is in
    elim c.then-has_begun.branch [
      | then-has_begun-via-then-has_begun w ↦ one_begun names x c.args.lists.now issuer cert below none
          (map (λ r. r.now) named) are list.now at (w.if-has_begun.ensures.0 refl)
      | then-has_begun-via-else-has_begun+then-not-is_signed_by w ↦ one_unsigned names x c.args.lists.now issuer
          cert below none (map (λ r. r.now) named) are list.now
          at (λ signs. false≢true (w.if-not-is_signed_by.ensures.1 signs))
    ]

pub loop-list-preserved : goal.loop-list-preserved
loop-list-preserved g c =
    let named = c.args.named.now in
    let i = c.loop-list.list-index in
    let list = c.list-item.result in
    let signs = λ (one : CrlState). IsSignedBy (g.V.Verifier.verifies c.args.verifier.now)
    c.args.issuer.now.cert.fields.key one.list.signed_data in
    let next : i + 1 ≡ suc i = omega arith in
    let more = taken_more (λ r. r.now) named i (i + 1) list next c.loop-list-test.true c.list-item.is in
    subst (λ (ls : List CrlState). (one : CrlState) → Contains ls one → signs one) (sym more)
    (each_more signs (map (λ r. r.now) (take i named)) list.now c.loop-list.invariant
    (c.if-not-is_signed_by.ensures.0 refl))

pub returns : goal.returns
returns g c = λ names strict are cert below none.
    let x = context (g.V.Verifier.verifies c.args.verifier.now) c.args.now strict in
    let issuer = c.args.issuer.now.cert.fields in
    let named = c.args.named.now in
    let signs = λ (one : CrlState). IsSignedBy (g.V.Verifier.verifies c.args.verifier.now) issuer.key
    one.list.signed_data in
    let all = ap (λ rs. map (λ r. r.now) rs) (take_all c.loop-list.list-index named c.loop-list-test.false) in
    let least : 0 < length named = grind (arith, c.is_empty.ensures, c.if-is_empty.false) in
    let some : 0 < length (map (λ r. r.now) named) = omega (arith, length-map named (λ r. r.now), least) in
    all_signed names x c.args.lists.now issuer cert below none (map (λ r. r.now) named) are some
    (subst (λ (ls : List CrlState). (one : CrlState) → Contains ls one → signs one) all c.loop-list.invariant)
