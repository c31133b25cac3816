use Rattle.std.proofs.Common.{◌≡◌, ◌&&◌, sym, ap, ◌∙◌, subst, Decides}
use Rattle.rpki_parts.specs.Uris.{IsRsync}
use Rattle.rpki_parts.specs.Uris.Tests.{has_module_and_path, is_rsync}
use Rattle.rpki_parts.proofs.UriTests.{rsync_decides}
use Rattle.rpki_parts.proofs.uri.is_rsync.Goals as goal

pub returns-then-is_uri-clause-grammar : goal.returns-then-is_uri-clause-grammar
returns-then-is_uri-clause-grammar c =
    let uri = c.args.uri.now in
    let value : is_rsync uri ≡ c.has_module_and_path.result =
    ap (λ b. b && has_module_and_path uri) (sym c.is_uri.ensures ∙ c.if-is_uri.true) ∙
    sym c.has_module_and_path.ensures in
    subst (λ b. Decides b (IsRsync uri)) value (rsync_decides uri)

pub returns-else-is_uri-clause-grammar : goal.returns-else-is_uri-clause-grammar
returns-else-is_uri-clause-grammar c =
    let uri = c.args.uri.now in
    let value : is_rsync uri ≡ c.is_uri.result =
    ap (λ b. b && has_module_and_path uri) (sym c.is_uri.ensures ∙ c.if-is_uri.false) ∙ sym c.if-is_uri.false in
    subst (λ b. Decides b (IsRsync uri)) value (rsync_decides uri)
