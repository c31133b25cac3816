-- What contracts see of the files that were read.
use Rattle.rpki_files.specs.Files.{contents}
use Rattle.rpki_requests.specs.RequestFiles.{InputFields}
use Rattle.rpki_command.specs.declared.inputs.Objects.{Objects}

-- the octets of their objects
abbrev pub input_fields : Objects → InputFields
input_fields objects = record {
  issuers = contents objects.issuers.items;
  lists = contents objects.lists.items;
  keys = contents objects.keys.items;
  previous = contents objects.previous.items;
  revoked = contents objects.revoked.items;
  files = contents objects.files.items;
}
