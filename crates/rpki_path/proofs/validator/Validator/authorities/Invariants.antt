use Rattle.std.proofs.Common.{map, take, rc_value}
use Rattle.rpki_cert.specs.Verification.{context}
use Rattle.rpki_cert.specs.declared.inspect.Kind.TheVariants.{Authority}
use Rattle.rpki_path.specs.Paths.{candidate, IsAccepted}
use Rattle.rpki_path.proofs.validator.Validator.authorities.Given as goal

abbrev pub invariant-loop-i : goal.invariant-loop-i
invariant-loop-i g l =
    let v = l.self in
    let x = context (g.V.Verifier.verifies v.verifier.now) v.at v.strict in
    IsAccepted x (g.R.RevocationSource.asks v.asked.now x) l.anchor (map (candidate Authority) (take l.i l.cas))
    (rc_value l.fn.tal) l.issuer
