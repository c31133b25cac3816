use Rattle.std.proofs.Common.{ℕ, List, subst, sym, ◌∙◌}
use Rattle.std.proofs.lemmas.Bool.{false≢true}
use Rattle.rpki_crl.specs.Lists.{IsTbsCertList, ListFields}
use Rattle.rpki_crl.specs.RevokedEntries.{Revoked}
use Rattle.rpki_der.specs.Encoding.{Begins}
use Rattle.rpki_der.specs.Place.{remaining}
use Rattle.rpki_c.proofs.Unread.{unless_memory}
use Rattle.rpki_c.proofs.list_completing.read_data.Goals as goal

pub returns-in-Ok : goal.returns-in-Ok
returns-in-Ok c =
    let rest = remaining c.take_from.new.cursor in (
      rest,
      subst (λ (l : List ℕ). Begins IsTbsCertList l c.in-Ok.list rest) c.new-cursor.ensures.all
          c.in-Ok.ensures.encoded,
    )

pub returns-else-is_memory : goal.returns-else-is_memory
returns-else-is_memory c = λ f h.
    let octets = remaining c.new-cursor.result in
    unless_memory ((g : ListFields Revoked) (rest : List ℕ) → Begins IsTbsCertList octets g rest → ⊥) c.in-Err.error
    c.in-Err.ensures.encoded
    (λ same. false≢true (sym c.if-is_memory.false ∙ c.is_memory-is_memory.ensures.1 same))
    f h.0 (subst (λ (l : List ℕ). Begins IsTbsCertList l f h.0) (sym c.new-cursor.ensures.all) h.1)
