use Rattle.std.specs.BTreeMap.{get}
use Rattle.std.specs.Cmp.Lexicographic.{slice_cmp}
use Rattle.std.specs.Ordering.{nat_cmp}
use Rattle.std.specs.Prelude.{Some, slice_get}
use Rattle.std.proofs.lemmas.Option.{slice_get-get_or}
use Rattle.std.proofs.Common.{◌≡◌, ◌≤◌, ◌∙◌, ℕ, Bor, List, length, sym, ap, arith, subst}
use Rattle.std.proofs.lemmas.List.{length-map}
use Rattle.rpki_files.specs.Files.{FileFields, contents}
use Rattle.rpki_files.specs.declared.bare.BareObject.{BareObject}
use Rattle.rpki_folder.specs.UnseenCertificates.{IsIssuerAmong}
use Rattle.rpki_folder.proofs.IssuersAmong.{of_all}
use Rattle.rpki_verdicts.proofs.FilesAt.{mapped_at}
use Rattle.rpki_verdicts.specs.TreeParts.{files_of}
use Rattle.rpki_verdicts.specs.UnseenCertificates.{status}
use Rattle.rpki_verdicts.proofs.issuers.issuers_of.Goals as goal

pub loop-place-init : goal.loop-place-init
loop-place-init c = c.new-by_key.ensures (contents (files_of c.args.trees.now)) (status c.args.trees.now)

pub add_issuer-requires : goal.add_issuer-requires
add_issuer-requires c =
    let trees = c.args.trees.now in
    let place = c.loop-place.place in
    let item = c.file-item.result in
    mapped_at (λ (f : Bor BareObject). f.now) trees.certs.items place item
    (subst (λ (l : List (Bor BareObject)). slice_get l place ≡ Some item) c.deref-file-items.ensures.value
    (slice_get-get_or c.deref-file-items.result.now place item c.loop-place-test.true
    ∙ ap (λ (f : Bor BareObject). Some f) (sym c.file-item.is)))

pub loop-place-preserved : goal.loop-place-preserved
loop-place-preserved c = c.in_ok-add_issuer.ensures c.loop-place.invariant

pub returns : goal.returns
returns c =
    let trees = c.args.trees.now in
    let files = files_of trees in
    let certs = contents files in
    let size : length files ≡ length c.deref-file-items.result.now =
    length-map trees.certs.items (λ (f : Bor BareObject). f.now) ∙ sym (ap length c.deref-file-items.ensures.value) in
    let all : length certs ≡ length files = length-map files (λ (f : FileFields). f.octets) in
    let far : length certs ≤ c.loop-place.place =
    omega (arith, all, size, c.loop-place-test.false, c.loop-place.auto.place-end) in
    record {
      by_key = λ key.
          let kept = get (slice_cmp nat_cmp) c.loop-place.by_key.issuers key in
          subst (λ (n : ℕ). IsIssuerAmong certs (status trees) n key kept) all
          (of_all certs (status trees) c.loop-place.place key kept far (c.loop-place.invariant key));
      by_uri = rw c.deref.ensures.value at c.in_ok-files.ensures;
    }
