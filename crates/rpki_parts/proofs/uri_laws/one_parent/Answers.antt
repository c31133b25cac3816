use Rattle.rpki_parts.proofs.UriEquivalences.{parent_is_rsync}
use Rattle.rpki_parts.proofs.UriParents.{one_parent, never_both}
use Rattle.rpki_parts.proofs.uri_laws.one_parent.Goals as goal

pub returns : goal.returns
returns c = record { parent = one_parent; valid = parent_is_rsync; none = never_both }
