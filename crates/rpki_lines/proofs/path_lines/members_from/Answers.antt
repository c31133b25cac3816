use Rattle.std.specs.List.{AllZip}
use Rattle.std.proofs.Common.{◌≡◌, ◌∷◌, ◌++◌, [], ℕ, List, Some, None, length, map, refl, sym, subst, rules}
use Rattle.rpki_lines.specs.InputLines.{IsInputLine, authority, end_entity}
use Rattle.rpki_lines.specs.declared.path_lines.Member.TheVariants.{Authority, Last}
use Rattle.rpki_lines.proofs.InputLines.{none_left, some_left}
use Rattle.rpki_lines.proofs.MemberLines.{Heads, authority_more, authority_encoded, bad_member, ended, ended_by_leaf, line_after_leaf}
use Rattle.rpki_lines.proofs.path_lines.members_from.Goals as goal

pub loop-line-preserved : goal.loop-line-preserved
loop-line-preserved c =
    let so_far = c.loop-line.invariant in
    let octets = c.in-Some-Authority.octets in
    let line = c.in-Some.line.now in
    let found : c.in_ok-octets.field-0 ≡ Some (Authority octets) = search rules in
    let is : IsInputLine (authority octets) line = rw found at c.in_ok-octets.ensures.some in
    record {
      kept = so_far.kept;
      lines = so_far.lines ++ line ∷ [];
      encoded =
          subst (λ (cas : List (List ℕ)). AllZip IsInputLine (map authority cas) (so_far.lines ++ line ∷ []))
          (sym c.in_ok-push-in-Some-Authority.ensures.items)
          (authority_encoded c.loop-line.cas.items so_far.lines so_far.encoded octets line is);
      so_far = authority_more so_far.lines c.args.text.now c.loop-line.rest.now so_far.so_far line
          c.in-Some.others.now c.in-Some.ensures.line;
    }

pub returns-then-not-is_empty : goal.returns-then-not-is_empty
returns-then-not-is_empty c = λ before is.
    let so_far = c.loop-line.invariant in
    let leaf = c.in-Some-Last.leaf in
    let line = c.in-Some.line.now in
    let found : c.in_ok-octets.field-0 ≡ Some (Last leaf) = search rules in
    let tells : IsInputLine (end_entity leaf) line = rw found at c.in_ok-octets.ensures.some in
    let many : c.len.result ≡ length c.loop-line.cas.items = search rules in
    rw many
    (line_after_leaf c.args.now c.args.strict c.args.anchor before is c.loop-line.cas.items so_far.lines
    so_far.encoded c.args.text.now c.loop-line.rest.now so_far.so_far leaf line c.in-Some.others.now
    c.in-Some.ensures.line tells
    (some_left c.in-Some.others.now c.if-not-is_empty.ensures))

pub returns-in-Some-Last : goal.returns-in-Some-Last
returns-in-Some-Last c = λ before is.
    let so_far = c.loop-line.invariant in
    let leaf = c.in-Some-Last.leaf in
    let line = c.in-Some.line.now in
    let found : c.in_ok-octets.field-0 ≡ Some (Last leaf) = search rules in
    let tells : IsInputLine (end_entity leaf) line = rw found at c.in_ok-octets.ensures.some in
    let heads = subst (λ (anchor : List ℕ). Heads c.args.now c.args.strict anchor before) (sym so_far.kept) is in
    ended_by_leaf c.args.now c.args.strict c.loop-line.anchor before heads c.loop-line.cas.items so_far.lines
    so_far.encoded c.args.text.now c.loop-line.rest.now so_far.so_far leaf line c.in-Some.others.now
    c.in-Some.ensures.line tells
    (record { now = c.args.now; strict = c.args.strict; anchor = c.loop-line.anchor; cas = c.loop-line.cas; leaf = Some leaf }) refl
    (none_left c.in-Some.others.now c.if-not-is_empty.ensures)

pub returns-in-None : goal.returns-in-None
returns-in-None c = λ before is.
    let so_far = c.loop-line.invariant in
    let none = rw c.in-None.is at c.in_ok-octets.ensures.none in
    let many : c.len-in-None.result ≡ length c.loop-line.cas.items = search rules in
    rw many
    (bad_member c.args.now c.args.strict c.args.anchor before is c.loop-line.cas.items so_far.lines so_far.encoded
    c.args.text.now c.loop-line.rest.now so_far.so_far c.in-Some.line.now c.in-Some.others.now
    c.in-Some.ensures.line none)

pub returns : goal.returns
returns c = λ before is.
    let so_far = c.loop-line.invariant in
    let heads = subst (λ (anchor : List ℕ). Heads c.args.now c.args.strict anchor before) (sym so_far.kept) is in
    ended c.args.now c.args.strict c.loop-line.anchor before heads c.loop-line.cas.items so_far.lines so_far.encoded
    c.args.text.now c.loop-line.rest.now so_far.so_far
    (record {
      now = c.args.now;
      strict = c.args.strict;
      anchor = c.loop-line.anchor;
      cas = c.loop-line.cas;
      leaf =
          None;
    }) refl c.in_default.ensures.none
