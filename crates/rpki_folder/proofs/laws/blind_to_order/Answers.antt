use Rattle.std.proofs.Common.{ℕ, List, [], map, subst}
use Rattle.rpki_ext.specs.Kinds.{Means}
use Rattle.rpki_cert.specs.Certificates.{IsCertificate}
use Rattle.rpki_cert.specs.Verification.{context}
use Rattle.rpki_path.specs.AskedLists.{by_named_lists}
use Rattle.rpki_path.proofs.SameLists.{named_there}
use Rattle.rpki_folder.proofs.Renamed.{reached_there, reached_too, all_looked_there}
use Rattle.rpki_folder.proofs.laws.blind_to_order.Goals as goal

pub returns-clause-reached : goal.returns-clause-reached
returns-clause-reached g c = λ verifier now strict names root folder other moved same_lists same above place reached.
    let x = context (g.V.Verifier.verifies verifier) now strict in
    let there = reached_there folder.certs other.certs moved same x (by_named_lists names x folder.lists) root above
    place reached in
    reached_too x (by_named_lists names x folder.lists) (by_named_lists names x other.lists)
    (λ issuer cert. named_there names x issuer cert folder.lists other.lists same_lists)
    root other.certs (map moved above) (moved place) there

pub returns-clause-looked_at : goal.returns-clause-looked_at
returns-clause-looked_at g c = λ names top folder other moved same places looked.
    all_looked_there moved folder.certs other.certs
    (λ place d stands. subst (λ (o : List ℕ). Means IsCertificate d o) (same place) stands) names top []
    places looked
