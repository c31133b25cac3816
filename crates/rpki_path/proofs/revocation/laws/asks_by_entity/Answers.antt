use Rattle.rpki_cert.specs.Verification.{context}
use Rattle.rpki_path.proofs.AskedByEntity.{uri_by_entity, lists_by_entity, named_lists_by_entity}
use Rattle.rpki_path.proofs.revocation.laws.asks_by_entity.Goals as goal

pub returns-clause-nobody : goal.returns-clause-nobody
returns-clause-nobody g c = λ names f g c e alike h. h

pub returns-clause-uri : goal.returns-clause-uri
returns-clause-uri g c = λ v now strict names pairs. uri_by_entity (context (g.V.Verifier.verifies v) now strict)
    names pairs

pub returns-clause-lists : goal.returns-clause-lists
returns-clause-lists g c = λ v now strict names lists.
    lists_by_entity (context (g.V.Verifier.verifies v) now strict) names lists

pub returns-clause-named : goal.returns-clause-named
returns-clause-named g c = λ v now strict names lists. named_lists_by_entity
    (context (g.V.Verifier.verifies v) now strict) names lists
