use Rattle.std.proofs.Common.{ℕ, List, ◌++◌, ◌+◌, length, take, drop, ap, ◌∙◌, arith}
use Rattle.std.proofs.lemmas.List.{length-append}
use Rattle.rpki_c.specs.Writing.{written_over}
use Rattle.rpki_c.proofs.Sentences.{three_pieces}
use Rattle.rpki_c.proofs.telling.put_sentence.Goals as goal

pub returns : goal.returns
returns c =
    let before : List ℕ = c.args.fault.now.before.now in
    let part : List ℕ = c.args.part.now in
    let behind : List ℕ = c.args.fault.now.behind.now in
    let at : ℕ → List ℕ → List ℕ → List ℕ = λ n o x. take n o ++ written_over x (drop n o) in (
      three_pieces before part behind c.args.out.now c.put_octets.new.out c.put_behind.new.out c.put_behind-2.new.out
          (c.put_octets.ensures.written ∙ ap (λ (x : List ℕ). written_over x c.args.out.now) c.as_bytes.ensures.value)
          (c.put_behind.ensures ∙ ap (at (length before) c.put_octets.new.out) c.as_bytes-2.ensures.value)
          (c.put_behind-2.ensures ∙ ap (at (length before + length part) c.put_behind.new.out)
          c.as_bytes-3.ensures.value),
      omega (arith, length-append before (part ++ behind), length-append part behind),
    )
