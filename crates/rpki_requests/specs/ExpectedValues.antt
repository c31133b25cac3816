-- What a value of an option is called, and which values the option takes (own).
use Rattle.std.specs.Prelude.{ℕ, List, codes}
use Rattle.rpki_requests.specs.declared.words.Setting.{Setting}
use Rattle.rpki_requests.specs.declared.words.Setting.TheVariants.{Issuer, Key, Serial, From, Until, Ipv4, Ipv6}
use Rattle.rpki_requests.specs.declared.words.Setting.TheVariants.{AsNumbers, Repository, Manifest, Notify, Object}
use Rattle.rpki_requests.specs.declared.words.Setting.TheVariants.{IssuerUri, CrlUri, Crl, Previous, Number, Revoke}
use Rattle.rpki_requests.specs.declared.words.Setting.TheVariants.{NextUpdate, At, Out}

-- what a value is called
abbrev pub asked_value_kind : Setting → List ℕ
asked_value_kind Issuer = codes "a file"
asked_value_kind Key = codes "a file"
asked_value_kind Serial = codes "a serial number"
asked_value_kind From = codes "a time"
asked_value_kind Until = codes "a time"
asked_value_kind Ipv4 = codes "IPv4 addresses"
asked_value_kind Ipv6 = codes "IPv6 addresses"
asked_value_kind AsNumbers = codes "AS numbers"
asked_value_kind Repository = codes "an rsync URI"
asked_value_kind Manifest = codes "an rsync URI"
asked_value_kind Notify = codes "an https URI"
asked_value_kind Object = codes "an rsync URI"
asked_value_kind IssuerUri = codes "an rsync URI"
asked_value_kind CrlUri = codes "an rsync URI"
asked_value_kind Crl = codes "a file"
asked_value_kind Previous = codes "a file"
asked_value_kind Number = codes "a CRL number"
asked_value_kind Revoke = codes "a file"
asked_value_kind NextUpdate = codes "a time"
asked_value_kind At = codes "a time"
asked_value_kind Out = codes "a file"

-- which values it takes
abbrev pub asked_value_expected : Setting → List ℕ
asked_value_expected Issuer = codes "FILE"
asked_value_expected Key = codes "FILE"
asked_value_expected Serial = codes "pairs of hexadecimal digits, a positive number of at most 20 bytes"
asked_value_expected From = codes "YYYY-MM-DD[THH:MM:SSZ]"
asked_value_expected Until = codes "YYYY-MM-DD[THH:MM:SSZ]"
asked_value_expected Ipv4 = codes "prefixes as 10.0.0.0/8, ranges as 10.0.0.0-10.0.2.255, or inherit alone"
asked_value_expected Ipv6 = codes "prefixes as 2001:db8::/32, ranges as 2001:db8::-2001:db8::1, or inherit alone"
asked_value_expected AsNumbers = codes "numbers as 64496, ranges as 64496-64511, or inherit alone"
asked_value_expected Repository = codes "rsync://HOST/MODULE/PATH"
asked_value_expected Manifest = codes "rsync://HOST/MODULE/PATH"
asked_value_expected Notify = codes "https://HOST/PATH"
asked_value_expected Object = codes "rsync://HOST/MODULE/PATH"
asked_value_expected IssuerUri = codes "rsync://HOST/MODULE/PATH"
asked_value_expected CrlUri = codes "rsync://HOST/MODULE/PATH"
asked_value_expected Crl = codes "FILE"
asked_value_expected Previous = codes "FILE"
asked_value_expected Number = codes "pairs of hexadecimal digits, a positive number of at most 20 bytes"
asked_value_expected Revoke = codes "FILE"
asked_value_expected NextUpdate = codes "YYYY-MM-DD[THH:MM:SSZ]"
asked_value_expected At = codes "YYYY-MM-DD[THH:MM:SSZ]"
asked_value_expected Out = codes "FILE"
