use Rattle.rpki_cert.specs.Profiles.{Lacks, faults}
use Rattle.rpki_cert.proofs.Testing.{Decides}
use Rattle.rpki_cert.proofs.cert.Cert.inspect.Given as goal

abbrev pub invariant-loop-fault : goal.invariant-loop-fault
invariant-loop-fault l = Decides (Lacks l.kind l.strict l.self) (faults l.kind) l.fault-index
