use Rattle.std.proofs.Common.{rules, ◌≡◌, ℕ, List, Bool, true, None, rc_value}
use Rattle.rpki.specs.RsaSignatures.{IsSignedByRsa}
use Rattle.rpki.specs.Sets.{is_in}
use Rattle.rpki.specs.Asking.{RevocationChecks, by_uri}
use Rattle.rpki.specs.Verification.{Context, context, ResourceFields}
use Rattle.rpki.specs.Paths.{candidates, IsAccepted}
use Rattle.rpki_example.specs.Answers.{IsHeld}
use Rattle.rpki_example.proofs.asking.holds_as.Goals as goal

-- what was accepted holds exactly the numbers of the result
answered : (x : Context) (asked : RevocationChecks) (anchor : List ℕ) (cas : List (List ℕ)) (tal : List ℕ) (asn : ℕ)
    (r : ResourceFields) (answer : Bool) → answer ≡ is_in asn r.as_numbers →
    IsAccepted x asked anchor (candidates cas None) tal r → IsHeld x asked anchor cas asn answer
answered x asked anchor cas tal asn r answer is a =
    record { path = a.path; path_of = a.path_of; is_valid = a.is_valid; held = rw is (a.held.as_is asn) }

pub returns : goal.returns
returns c =
    let x = context IsSignedByRsa c.args.now true in
    let is : c.contains.result ≡ is_in c.args.asn c.in_ok-holder.holder.as_numbers = search rules in
    record {
      held = answered x (by_uri x c.args.store.now.pairs) c.args.anchor.now c.args.cas.now (rc_value c.args.tal)
          c.args.asn c.in_ok-holder.holder c.contains.result is c.in_ok-holder.ensures.validates;
    }
