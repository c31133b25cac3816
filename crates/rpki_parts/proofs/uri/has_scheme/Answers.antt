use Rattle.std.proofs.Common.{refl}
use Rattle.rpki_parts.specs.Uris.Tests.{authority_of}
use Rattle.rpki_parts.proofs.Slashes.{empty_is, folded}
use Rattle.rpki_parts.proofs.uri.has_scheme.Goals as goal

pub returns-then-eq_ignore_ascii_case : goal.returns-then-eq_ignore_ascii_case
returns-then-eq_ignore_ascii_case c =
    let same = folded c.eq_ignore_ascii_case.result c.split_scheme.result.0.now c.args.scheme.now c.eq_ignore_ascii_case.ensures.test in
    rw (
      ← c.split_scheme.ensures.scheme,
      ← same,
      c.if-eq_ignore_ascii_case.true,
      c.is_empty.ensures,
      c.split_authority.ensures.authority,
      empty_is (authority_of c.args.uri.now),
    ) refl

pub returns-else-eq_ignore_ascii_case : goal.returns-else-eq_ignore_ascii_case
returns-else-eq_ignore_ascii_case c =
    let same = folded c.eq_ignore_ascii_case.result c.split_scheme.result.0.now c.args.scheme.now c.eq_ignore_ascii_case.ensures.test in
    rw (← c.split_scheme.ensures.scheme, ← same, c.if-eq_ignore_ascii_case.false) refl
