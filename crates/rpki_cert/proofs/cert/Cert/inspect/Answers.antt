use Rattle.std.proofs.Common.{refl}
use Rattle.std.proofs.lemmas.Bool.{false≢true}
use Rattle.rpki_ext.specs.declared.inspection.InspectionError.TheVariants.{AlgorithmMismatch}
use Rattle.rpki_cert.specs.Profiles.{Lacks, faults}
use Rattle.rpki_cert.proofs.Testing.{fails, holds, all_hold}
use Rattle.rpki_cert.proofs.cert.Cert.inspect.Goals as goal

pub returns-then-not-lacks : goal.returns-then-not-lacks
returns-then-not-lacks c = fails (Lacks c.args.kind c.args.strict c.args.self.now) (faults c.args.kind)
    _ c.faults-fault-items.ensures c.loop-fault.fault-index AlgorithmMismatch c.loop-fault.invariant
    c.loop-fault-test.true (λ h. false≢true (c.if-not-lacks.ensures.1 h))

pub loop-fault-preserved : goal.loop-fault-preserved
loop-fault-preserved c = holds (Lacks c.args.kind c.args.strict c.args.self.now) (faults c.args.kind)
    _ c.faults-fault-items.ensures c.loop-fault.fault-index AlgorithmMismatch c.loop-fault.invariant
    c.loop-fault-test.true (c.if-not-lacks.ensures.0 refl)

pub returns : goal.returns
returns c = all_hold (Lacks c.args.kind c.args.strict c.args.self.now) (faults c.args.kind)
    _ c.faults-fault-items.ensures c.loop-fault.fault-index AlgorithmMismatch c.loop-fault.invariant
    c.loop-fault-test.false
