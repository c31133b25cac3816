-- The files that are named on a command line.
use Rattle.std.specs.Prelude.{ℕ, List, map}

-- a file: its name, and the octets of its object, in DER
pub record FileFields : Type 0 where
  pub name : List ℕ
  pub octets : List ℕ

-- the names of files
abbrev pub file_names : List FileFields → List (List ℕ)
file_names files = map (λ file. file.name) files

-- the octets of each
abbrev pub contents : List FileFields → List (List ℕ)
contents files = map (λ file. file.octets) files
