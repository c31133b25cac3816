use Rattle.std.specs.Int.{w32, w128, from_be_bytes}
use Rattle.std.specs.Int.Digits.{number_from_digits, number_from_digits_after, AllBelowBase}
use Rattle.std.proofs.Common.{◌≡◌, ℕ, zero, suc, List, [], ◌∷◌, get_or, subst, ◌+◌, ◌*◌, ◌^◌, ◌<◌, length, take, drop, sym, ap, ◌∙◌, arith}
use Rattle.std.proofs.lemmas.Int.Digits.{number_after_append, number_lt}
use Rattle.std.proofs.lemmas.List.{length-take, length-drop, take-append-drop, take_all}
use Rattle.rpki_der.proofs.HighFirst.{bytes_number, number_behind}
use Rattle.rpki_crl.proofs.table.parts_of.Goals as goal

octets_below : (ds : List ℕ) → ((i : ℕ) → get_or ds i 0 < 256) → AllBelowBase 256 ds
octets_below [] h = tt
octets_below (d ∷ ds) h = (h 0, octets_below ds (λ i. h (suc i)))

rest_below : (n : ℕ) (ds : List ℕ) → AllBelowBase 256 ds → AllBelowBase 256 (drop n ds)
rest_below zero ds h = h
rest_below (suc n) [] h = tt
rest_below (suc n) (d ∷ ds) h = rest_below n ds h.1

module _ (octets : List ℕ) (long : length octets ≡ 20) (fits : (i : ℕ) → get_or octets i 0 < 256) where
  abbrev front : List ℕ
  front = take 16 octets

  abbrev back : List ℕ
  back = drop 16 octets

  long_front : length front ≡ 16
  long_front = omega (arith, length-take 16 octets)

  long_back : length back ≡ 4
  long_back = omega (arith, length-drop 16 octets)

  whole : number_from_digits 256 octets ≡ number_from_digits 256 front * 256 ^ 4 + number_from_digits 256 back
  whole =
      let behind : number_from_digits_after 256 (number_from_digits 256 front) back ≡
      number_from_digits 256 front * 256 ^ 4 + number_from_digits 256 back =
      number_behind (number_from_digits 256 front) back ∙
      ap (λ n. number_from_digits 256 front * 256 ^ n + number_from_digits 256 back) long_back in
      ap (number_from_digits 256) (sym (take-append-drop 16 octets)) ∙ number_after_append 256 0 front back ∙ behind

  small : number_from_digits 256 back < 256 ^ 4
  small = subst (λ n. number_from_digits 256 back < 256 ^ n) long_back
      (number_lt 256 back (rest_below 16 octets (octets_below octets fits)))

pub returns-clause-front : goal.returns-clause-front
returns-clause-front c =
    let octets = c.args.octets.now in
    let fits : (i : ℕ) → get_or octets i 0 < 256 = λ i. omega (arith, c.type_inv.octets i) in
    let high : c.from_be_bytes.result ≡ number_from_digits 256 (take 16 octets) = c.from_be_bytes.ensures ∙
    ap (from_be_bytes w128) c.copy_from_slice.ensures.after ∙ bytes_number 15 (take 16 octets)
    (long_front octets c.requires fits) in
    omega (arith, high, whole octets c.requires fits, small octets c.requires fits)

pub returns-clause-back : goal.returns-clause-back
returns-clause-back c =
    let octets = c.args.octets.now in
    let fits : (i : ℕ) → get_or octets i 0 < 256 = λ i. omega (arith, c.type_inv.octets i) in
    let back_octets : c.copy_from_slice-2.new.self ≡ drop 16 octets = c.copy_from_slice-2.ensures.after ∙
    take_all _ (drop 16 octets) (omega (arith, long_back octets c.requires fits)) in
    let low : c.from_be_bytes-2.result ≡ number_from_digits 256 (drop 16 octets) = c.from_be_bytes-2.ensures ∙
    ap (from_be_bytes w32) back_octets ∙ bytes_number 3 (drop 16 octets) (long_back octets c.requires fits) in
    omega (arith, low, whole octets c.requires fits, small octets c.requires fits)
