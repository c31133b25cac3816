use Rattle.std.proofs.Common.{◌≡◌, ◌++◌, None, Some, sym, ap, ◌∙◌, arith}
use Rattle.std.proofs.lemmas.Bool.Decides.{Decides-eqb}
use Rattle.std.proofs.lemmas.List.{append_cancel_left}
use Rattle.std.proofs.lemmas.Slice.Eq.{strip_prefix_is, strip_suffix_is}
use Rattle.rpki_keys.specs.Octets.{i2osp}
use Rattle.rpki_keys.proofs.OctetNumbers.{octets-of-fits}
use Rattle.rpki_keys.proofs.KeyFrames.{head, tail, key-bits, key-long, key-high, key-odd, takes, within}
use Rattle.rpki_keys.proofs.key.modulus.Goals as goal

pub returns-in_default : goal.returns-in_default
returns-in_default c = λ n e k.
    strip_prefix_is Decides-eqb c.args.bits.now head None c.in_default.ensures.cases (i2osp n 256 ++ tail) (key-bits _ n e k)

pub returns-in_default-strip_suffix : goal.returns-in_default-strip_suffix
returns-in_default-strip_suffix c = λ n e k.
    let bits = c.args.bits.now in
    let rest = c.in-Some.rest in
    let before : bits ≡ head ++ rest.now = strip_prefix_is Decides-eqb bits head (Some rest) c.in-Some.ensures.cases in
    strip_suffix_is Decides-eqb rest.now tail None c.in_default-strip_suffix.ensures.cases (i2osp n 256)
    (append_cancel_left head rest.now (i2osp n 256 ++ tail) (sym before ∙ key-bits bits n e k))

pub returns-then-octets-ne256 : goal.returns-then-octets-ne256
returns-then-octets-ne256 c =
    let bits = c.args.bits.now in
    let rest = c.in-Some.rest in
    let octets = c.in-Some-strip_suffix.octets in
    let before : bits ≡ head ++ rest.now = strip_prefix_is Decides-eqb bits head (Some rest) c.in-Some.ensures.cases in
    let behind : rest.now ≡ octets.now ++ tail = strip_suffix_is Decides-eqb rest.now tail (Some octets)
    c.in-Some-strip_suffix.ensures.cases in
    let whole : bits ≡ head ++ (octets.now ++ tail) = before ∙ ap (λ z. head ++ z) behind in
    λ n e k. c.if-octets-ne256.true (key-long bits octets.now n e whole k)

pub returns-then-octets-lt128 : goal.returns-then-octets-lt128
returns-then-octets-lt128 c =
    let bits = c.args.bits.now in
    let rest = c.in-Some.rest in
    let octets = c.in-Some-strip_suffix.octets in
    let before : bits ≡ head ++ rest.now = strip_prefix_is Decides-eqb bits head (Some rest) c.in-Some.ensures.cases in
    let behind : rest.now ≡ octets.now ++ tail = strip_suffix_is Decides-eqb rest.now tail (Some octets)
    c.in-Some-strip_suffix.ensures.cases in
    let whole : bits ≡ head ++ (octets.now ++ tail) = before ∙ ap (λ z. head ++ z) behind in
    let fits = within bits octets.now whole (octets-of-fits bits c.type_inv.bits) in
    λ n e k. key-high bits octets.now n e whole fits c.if-octets-ne256.false c.if-octets-lt128.true k

pub returns-then-octets-eq0 : goal.returns-then-octets-eq0
returns-then-octets-eq0 c =
    let bits = c.args.bits.now in
    let rest = c.in-Some.rest in
    let octets = c.in-Some-strip_suffix.octets in
    let before : bits ≡ head ++ rest.now = strip_prefix_is Decides-eqb bits head (Some rest) c.in-Some.ensures.cases in
    let behind : rest.now ≡ octets.now ++ tail = strip_suffix_is Decides-eqb rest.now tail (Some octets)
    c.in-Some-strip_suffix.ensures.cases in
    let whole : bits ≡ head ++ (octets.now ++ tail) = before ∙ ap (λ z. head ++ z) behind in
    λ n e k. key-odd bits octets.now n e whole c.if-octets-ne256.false c.if-octets-eq0.true k

pub returns : goal.returns
returns c =
    let bits = c.args.bits.now in
    let rest = c.in-Some.rest in
    let octets = c.in-Some-strip_suffix.octets in
    let before : bits ≡ head ++ rest.now = strip_prefix_is Decides-eqb bits head (Some rest) c.in-Some.ensures.cases in
    let behind : rest.now ≡ octets.now ++ tail = strip_suffix_is Decides-eqb rest.now tail (Some octets)
    c.in-Some-strip_suffix.ensures.cases in
    let whole : bits ≡ head ++ (octets.now ++ tail) = before ∙ ap (λ z. head ++ z) behind in
    let fits = within bits octets.now whole (octets-of-fits bits c.type_inv.bits) in
    takes bits octets.now whole fits c.if-octets-ne256.false c.if-octets-lt128.false (omega (arith, c.if-octets-eq0.false))
