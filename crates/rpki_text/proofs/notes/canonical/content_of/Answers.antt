use Rattle.std.proofs.Common.{ℕ, List, sym, ap, subst, ◌∙◌, refl}
use Rattle.std.proofs.lemmas.Bool.{false≢true}
use Rattle.rpki_der.specs.Encoding.{Begins}
use Rattle.rpki_der.specs.Extensions.{Extension, IsExtension, extension_format}
use Rattle.rpki_der.specs.Extensions.Views.{extension_view}
use Rattle.rpki_der.specs.Place.{remaining}
use Rattle.rpki_text.proofs.Written.{content_read, not_refused, nothing_kept}
use Rattle.rpki_text.proofs.notes.canonical.content_of.Goals as goal

pub returns-then-is_empty : goal.returns-then-is_empty
returns-then-is_empty c =
    let octets = c.args.octets.now in
    nothing_kept octets (remaining c.new-whole.result) c.new-whole.ensures.all (sym c.new-whole.ensures.all ∙ c.if-is_empty.ensures.0 refl)

pub returns : goal.returns
returns c = content_read c.args.octets.now (extension_view (c.in-Ok.field-0-0, c.in-Ok.field-0-1, c.in-Ok.content))
    (remaining c.take_extension.new.cursor)
    (ap extension_format.read (sym c.new-whole.ensures.all) ∙ c.in-Ok.ensures.answers.reads)

pub unreachable-requires : goal.unreachable-requires
unreachable-requires c =
    let octets = c.args.octets.now in
    let refused = subst (λ (b : List ℕ). (x : Extension) (rest : List ℕ) → Begins IsExtension b x rest → ⊥)
    c.new-whole.ensures.all c.in-Err.ensures.answers.encoded.1 in
    not_refused octets (λ empty. false≢true (c.if-is_empty.ensures.1 (c.new-whole.ensures.all ∙ empty))) c.requires refused
