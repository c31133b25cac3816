-- The errors that conversions give.
use Rattle.rpki_path.specs.declared.located.LocatedError.{LocatedError}
use Rattle.rpki_path.specs.declared.located.LocatedError.TheVariants.{OtherKey, NoResources, Path as path}
use Rattle.rpki_path.specs.declared.path_fault.PathFault.{PathFault}
use Rattle.rpki_path.specs.declared.path_fault.PathFault.TheVariants.{Memory}
use Rattle.rpki_path.specs.declared.path_fault.PathError.{PathError}
use Rattle.rpki_folder.specs.declared.walk_error.WalkError.{WalkError}
use Rattle.rpki_folder.specs.declared.walk_error.WalkError.TheVariants.{Anchor, Memory as memory}

abbrev of_path : PathError → PathFault → WalkError
of_path e Memory = memory
of_path e fault = Anchor (path e)

-- out of memory is one error, wherever it comes
abbrev pub of_located : LocatedError → WalkError
of_located OtherKey = Anchor OtherKey
of_located NoResources = Anchor NoResources
of_located (path e) = of_path e e.fault
