use Rattle.rpki_keys.specs.Locators.{IsTalUri}
use Rattle.rpki_keys.proofs.SectionsRead.{memory_alone, one_more_uri}
use Rattle.rpki_keys.proofs.tal.tal_uri.push_uri.Goals as goal

pub returns-in_err-map_err-clause-rejected : goal.returns-in_err-map_err-clause-rejected
returns-in_err-map_err-clause-rejected c = memory_alone (IsTalUri c.args.line.now → ⊥)
    c.from_residual-in_err-map_err.result c.from_residual-in_err-map_err.ensures.1

pub returns-clause-ok : goal.returns-clause-ok
returns-clause-ok c = one_more_uri c.args.uris.now.items c.push.new.self.items c.in_ok-uri.uri c.args.line.now
    (rw (← c.in_ok-map_err.ensures.variant) at c.push.ensures.items) c.in_ok-uri.ensures.ok
