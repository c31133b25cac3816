use Rattle.rpki_verdicts.proofs.FilesAbove.{unsigned, first_accepted, first_of_all}
use Rattle.rpki_verdicts.proofs.search.issuer_of.Goals as goal

pub returns-in_default-clause-issuer : goal.returns-in_default-clause-issuer
returns-in_default-clause-issuer c =
    unsigned c.args.tree.now c.args.file.now c.signer_of.result c.signer_of.ensures c.in_default.is

pub returns-in-Some-first_keyed-clause-issuer : goal.returns-in-Some-first_keyed-clause-issuer
returns-in-Some-first_keyed-clause-issuer c =
    first_accepted c.args.tree.now c.args.file.now c.signer_of.result c.signer_of.ensures c.in-Some.key c.in-Some.is
    c.in-Some-first_keyed.place c.in-Some-first_keyed.ensures.first

pub returns-clause-issuer : goal.returns-clause-issuer
returns-clause-issuer c =
    first_of_all c.args.tree.now c.args.file.now c.signer_of.result c.signer_of.ensures c.in-Some.key c.in-Some.is
    c.in_default-first_keyed.ensures.first c.first_keyed-2.result c.first_keyed-2.ensures.first
