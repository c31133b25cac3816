use Rattle.std.proofs.Common.{map, take}
use Rattle.rpki_cert.specs.declared.inspect.Kind.TheVariants.{Authority}
use Rattle.rpki_path.specs.NameChains.Steps.{BeginChainedTo}
use Rattle.rpki_path.specs.Paths.{candidate}
use Rattle.rpki_path.proofs.names.authority_subject.Given as goal

abbrev pub invariant-loop-i : goal.invariant-loop-i
invariant-loop-i l = BeginChainedTo l.anchor (map (candidate Authority) (take l.i l.cas)) l.above
