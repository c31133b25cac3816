use Rattle.std.specs.List.{AllZip}
use Rattle.std.specs.Prelude.{Ok}
use Rattle.std.proofs.Common.{◌≡◌, ◌<◌, [], ℕ, List, length, map, sym, ap, subst, ◌∙◌, arith}
use Rattle.std.proofs.lemmas.List.{length-map}
use Rattle.rpki_cert.specs.Verification.{context}
use Rattle.rpki_keys.specs.RsaSignatures.{IsSignedByRsa}
use Rattle.rpki_path.specs.AskedLists.{by_named_lists}
use Rattle.rpki_folder.specs.FirstPlaces.{AreFirstsIn, IsFirstIn}
use Rattle.rpki_folder.specs.Folders.{string_at}
use Rattle.rpki_folder.specs.FoundAnchors.{IsAnchorAt}
use Rattle.rpki_folder.specs.LimitTables.{IsTableOf}
use Rattle.rpki_folder.specs.ReachedLimits.{AreLimitedFrom}
use Rattle.rpki_folder.specs.Walks.{TellsFrom}
use Rattle.rpki_folder.specs.declared.anchors.WrongCandidate.{WrongCandidate}
use Rattle.rpki_folder.specs.declared.walk_error.WalkError.{WalkError}
use Rattle.rpki_folder.proofs.KeptWalkSteps.{limited_from, tells_from}
use Rattle.rpki_files.specs.Files.{FileFields}
use Rattle.rpki_folder.specs.KeptLines.{AreLines}
use Rattle.rpki_folder.specs.declared.lines.Line.{Line}
use Rattle.rpki_verdicts.specs.declared.named_paths.NameRule.{NameRule}
use Rattle.rpki_verdicts.specs.declared.named_paths.NamedLines.{NamedLines}
use Rattle.rpki_verdicts.specs.Trees.{asked_of}
use Rattle.rpki_verdicts.proofs.NamedSteps.{kept_over}
use Rattle.rpki_verdicts.specs.Trees.Steps.{IsCandidateTold}
use Rattle.rpki_verdicts.proofs.FilesAt.{file_there, octets_there}
use Rattle.rpki_verdicts.proofs.WrongFiles.{none_found}
use Rattle.rpki_verdicts.proofs.unordered.grown.Goals as goal

pub returns-in_ok-wrong-in-Wrong : goal.returns-in_ok-wrong-in-Wrong
returns-in_ok-wrong-in-Wrong c = λ l read.
    let q = c.args.question.now in
    let x = context IsSignedByRsa q.at q.strict in
    let files = map (λ f. f.now) c.args.certs.items in
    let candidates = c.in-Wrong.candidates.items in
    let found = rw c.in-Wrong.is at c.in_ok-candidates.ensures in
    let ws = c.in_ok-wrong-in-Wrong.field-0.items in
    let of_certs = subst (λ (l : List _). AllZip (IsCandidateTold (map (λ f. f.now) l)) c.deref-in-Wrong.result.now ws)
    c.deref.ensures.value c.in_ok-wrong-in-Wrong.ensures in
    let told = subst (λ (cs : List WrongCandidate). AllZip (IsCandidateTold files) cs ws) c.deref-in-Wrong.ensures.value of_certs in
    none_found files x (asked_of q) l c.args.tal.now c.args.folder.now c.requires read candidates found.0 found.1 ws told

pub returns-in_ok-walk-in-Valid : goal.returns-in_ok-walk-in-Valid
returns-in_ok-walk-in-Valid c = λ l read.
    let q = c.args.question.now in
    let x = context IsSignedByRsa q.at q.strict in
    let t = c.args.tal.now in
    let files = map (λ f. f.now) c.args.certs.items in
    let folder = c.args.folder.now in
    let asked = by_named_lists q.names x folder.lists in
    let place = c.in-Valid.anchor in
    let issuer = c.in-Valid.issuer in
    let found = rw c.in-Valid.is at c.in_ok-candidates.ensures in
    let octets = string_at folder.certs place in
    let same_certs = c.requires.octets_are in
    let inside = found.1.valid.inside in
    let low : place < length files = omega (arith, inside, ap length same_certs, length-map files (λ (f : FileFields). f.octets)) in
    let file = file_there files place low in
    let same : octets ≡ file.0.octets = ap (λ (o : List (List ℕ)). string_at o place) same_certs ∙ octets_there files place file.0 file.1 in
    let firsts = c.in_ok-firsts-in-Valid.firsts in
    let told = c.in_ok-walk-in-Valid.ensures.tells in
    let walk = c.in_ok-walk-in-Valid.walk in
    let reached = c.in_ok-walk-in-Valid.ensures.limits in
    let cas = reached.0 in
    let start = c.first_of-start.ensures.value in
    let law = c.unambiguous.ensures.certificate in
    let from = tells_from x q.names t folder q.depth q.steps place issuer firsts law found walk.ended told.0 told.2 in
    let limited = limited_from x q.names t folder q.depth q.steps place issuer firsts law found cas reached.2 in
    let new = c.in_ok-kept-in-Valid.ensures in
    let after : NamedLines = c.walked-walked.new.lines in
    let parts = c.into_parts-lines in
    record {
      certs_are = c.requires.certs_are;
      lists = folder.lists;
      lists_are = c.requires.lists_are;
      locator = t;
      locator_is = read;
      anchor_is = subst (λ (o : List (List ℕ)). IsAnchorAt x asked q.names t o place) same_certs found.1;
      anchor = file.0;
      stands = file.1;
      firsts_are = subst (λ (o : List (List ℕ)). AreFirstsIn o firsts) same_certs c.in_ok-firsts-in-Valid.ensures;
      told = told.0;
      tells = subst (λ (o : List (List ℕ)). TellsFrom {E = WalkError} x asked q.names (IsFirstIn firsts) t
          file.0.octets o q.depth q.steps (Ok walk.ended) told.0) same_certs
          (subst (λ (o : List ℕ). TellsFrom {E = WalkError} x asked q.names (IsFirstIn firsts) t o folder.certs
          q.depth q.steps (Ok walk.ended) told.0) same from);
      count_is = ap (λ (ls : List Line). length ls) parts.ensures.lines ∙ told.1.lines_are.0 ∙ new.count
          ∙ ap length c.deref-in-Valid.ensures.value ∙ sym (length-map c.args.certs.items (λ f. f.now));
      lines_are = subst (λ (ls : List Line). AreLines told.0 ls) (sym parts.ensures.lines) (told.1.lines_are.1 new.lines);
      named_are = kept_over after.rule q.root.now c.args.certs.items firsts place
          (ap (λ (r : NameRule). r.root.now) told.1.rule_is ∙ new.root)
          (ap (λ (r : NameRule). r.certs.now) told.1.rule_is ∙ new.certs ∙ c.deref-in-Valid.ensures.value)
          (ap (λ (r : NameRule). r.firsts.now) told.1.rule_is ∙ new.firsts)
          (ap (λ (r : NameRule). r.anchor) told.1.rule_is ∙ new.anchor) told.0 after.lines parts.result.0
          after.paths parts.result.1 parts.ensures.lines parts.ensures.paths
          (told.1.paths_are new.right new.lines new.kept);
      limited = cas;
      limited_are = subst (λ (o : List (List ℕ)). AreLimitedFrom x asked q.names (IsFirstIn firsts) t file.0.octets o
          q.depth q.steps cas) same_certs
          (subst (λ (o : List ℕ). AreLimitedFrom x asked q.names (IsFirstIn firsts) t o folder.certs q.depth q.steps cas) same limited);
      limits_are = subst (λ (n : ℕ). IsTableOf n (length files) cas walk.limits) start
          (subst (λ (n : ℕ). IsTableOf c.first_of-start.result n cas walk.limits)
          (ap length same_certs ∙ length-map files (λ (f : FileFields). f.octets)) reached.1.table);
    }
