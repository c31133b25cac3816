-- The texts about the command (own).
use Rattle.std.specs.List.{concat}
use Rattle.std.specs.Prelude.{ℕ, List, [], ◌∷◌, ◌++◌, bytes_eq, codes, if◌then◌else◌}
use Rattle.rpki_command.specs.declared.about.Topic.{Topic}
use Rattle.rpki_command.specs.declared.about.Topic.TheVariants as about
use Rattle.rpki_text.specs.declared.command_line.arguments.Task.{Task}
use Rattle.rpki_text.specs.declared.command_line.arguments.Task.TheVariants.{Show, Validate, Tree, Help, Version}

-- ---- what words are about

-- the command that the word names, or all commands
abbrev pub topic_named : List ℕ → Topic
topic_named word =
    if bytes_eq word (codes "show") then about.Show
    else (if bytes_eq word (codes "validate") then about.Validate
    else (if bytes_eq word (codes "tree") then about.Tree
    else (if bytes_eq word (codes "prepare") then about.Prepare
    else (if bytes_eq word (codes "complete") then about.Complete
    else about.All))))

-- what the first word names
abbrev pub topic_first : List (List ℕ) → Topic
topic_first [] = about.All
topic_first (word ∷ rest) = topic_named word

-- what the words are about: what the first names, or the second behind `help`
abbrev pub topic_of : List (List ℕ) → Topic
topic_of [] = about.All
topic_of (first ∷ rest) = if bytes_eq first (codes "help") then topic_first rest else topic_named first

-- what the command is called, with the program's name
abbrev pub topic_name : Topic → List ℕ
topic_name about.Show = codes "rpki show"
topic_name about.Validate = codes "rpki validate"
topic_name about.Tree = codes "rpki tree"
topic_name about.Prepare = codes "rpki prepare"
topic_name about.Complete = codes "rpki complete"
topic_name about.All = codes "rpki"

-- where its help is, in a line
abbrev pub hint_text : Topic → List ℕ
hint_text topic = codes "Try '" ++ (topic_name topic ++ codes " --help'.\n")

-- ---- how the commands are used

-- all commands
abbrev pub usage_text : List ℕ
usage_text = concat (
    codes "usage: rpki COMMAND [OPTION].. FILE..\n"
    ∷ codes "  show       prints what certificates, CRLs and TALs contain\n"
    ∷ codes "  validate   validates a path of certificates, from the trust anchor down\n"
    ∷ codes "  tree       validates all certificates among files and directories\n"
    ∷ codes "  prepare    writes what is to be signed of a certificate or a CRL\n"
    ∷ codes "  complete   writes the certificate or CRL, from that and its signature\n"
    ∷ codes "  help       prints this, or what 'rpki help COMMAND' asks for\n"
    ∷ codes "  --version  prints the version\n"
    ∷ codes "'rpki COMMAND --help' prints the options of a command and an example.\n"
    ∷ [])

-- `rpki show`
abbrev pub show_text : List ℕ
show_text = concat (
    codes "usage: rpki show [OPTION].. FILE..\n"
    ∷ codes "Prints what certificates, CRLs, TALs and to-be-signed parts contain. It validates nothing.\n"
    ∷ codes "FILE is DER or PEM; - is standard input; after -- each word is a FILE.\n"
    ∷ codes "  --all                 prints all entries of a CRL, not only the first five\n"
    ∷ codes "  --at TIME             the time for what expires when; if left out, the clock's\n"
    ∷ codes "  --lenient             accepts names in UTF8Strings, and comments of a TAL that aren't"
    ∷ codes " UTF-8\n"
    ∷ codes "  --max-size BYTES      the most bytes of a file (67108864)\n"
    ∷ codes "  -o, --output FORMAT   text, json, or jsonl: one value on each line\n"
    ∷ codes "  -j, --json            the same as -o json\n"
    ∷ codes "  -q, --quiet           prints nothing: only the exit status\n"
    ∷ codes "TIME is YYYY-MM-DD, YYYY-MM-DDTHH:MM:SSZ or YYYYMMDDHHMMSS.\n"
    ∷ codes "Exit status: 0 all are shown, 1 a file is none of these, 2 wrong usage, 3 a file can't"
    ∷ codes " be read.\n"
    ∷ codes "Example: rpki show anchor.cer\n"
    ∷ [])

-- `rpki validate`
abbrev pub validate_text : List ℕ
validate_text = concat (
    codes "usage: rpki validate --tal FILE.. --crl FILE.. [OPTION].. ANCHOR [CA].. [LAST]\n"
    ∷ codes "       rpki validate --tal FILE.. --in DIRECTORY.. [OPTION].. FILE\n"
    ∷ codes "Validates a path from the trust anchor down, or searches directories for one to FILE.\n"
    ∷ codes "  --tal FILE            requires that the trust anchor has this TAL's key\n"
    ∷ codes "  --trust-first         in place of --tal: trusts ANCHOR as it is given\n"
    ∷ codes "  --crl FILE            checks revocation, with this CRL and the other ones given\n"
    ∷ codes "  --no-crl              in place of --crl: checks no revocation\n"
    ∷ codes "  --in DIRECTORY        searches certificates and CRLs in it and below it\n"
    ∷ codes "  --depth NUMBER        of that search: the most certificates below the trust anchor"
    ∷ codes " (32)\n"
    ∷ codes "  --steps NUMBER        of that search: the most steps below each trust anchor"
    ∷ codes " (10,000,000)\n"
    ∷ codes "  --no-names            skips name chaining, and the issuer names of CRLs\n"
    ∷ codes "  --at TIME             the validation time; if left out, the clock's\n"
    ∷ codes "  --lenient, --max-size BYTES, -o FORMAT, -j, -q: as 'rpki show --help' says\n"
    ∷ codes "TIME is YYYY-MM-DD, YYYY-MM-DDTHH:MM:SSZ or YYYYMMDDHHMMSS.\n"
    ∷ codes "Exit status: 0 accepted, 1 rejected, 2 wrong usage, 3 a file can't be read.\n"
    ∷ codes "Example: rpki validate --tal anchor.tal --crl anchor.crl anchor.cer first.cer\n"
    ∷ [])

-- `rpki tree`
abbrev pub tree_usage : List ℕ
tree_usage = concat (
    codes "usage: rpki tree --tal FILE.. [OPTION].. FILE|DIRECTORY..\n"
    ∷ codes "Validates every certificate among the files, in any order, with the CRLs among them.\n"
    ∷ codes "Of a DIRECTORY it reads the files in it and below it that end in .cer or .crl.\n"
    ∷ codes "  --tal FILE            a trust anchor is the certificate that has this TAL's key; repeatable\n"
    ∷ codes "  --only rejected       prints only the certificates that aren't accepted\n"
    ∷ codes "  --strict-exit         ends with 1 also if a file damages the cache, or only trust anchors are there\n"
    ∷ codes "  --depth NUMBER        the most certificates below the trust anchor on a path (32)\n"
    ∷ codes "  --steps NUMBER        the most steps below each trust anchor (10,000,000)\n"
    ∷ codes "  --no-names            skips name chaining, and the issuer names of CRLs\n"
    ∷ codes "  --at TIME             the validation time; if left out, the clock's\n"
    ∷ codes "  --lenient, --max-size BYTES, -o FORMAT, -j, -q: as 'rpki show --help' says\n"
    ∷ codes "TIME is YYYY-MM-DD, YYYY-MM-DDTHH:MM:SSZ or YYYYMMDDHHMMSS.\n"
    ∷ codes "Exit status: 0 all are accepted, 1 one isn't, 2 wrong usage, 3 a file can't be read.\n"
    ∷ codes "Example: rpki tree --tal anchor.tal --only rejected repository/\n"
    ∷ [])

-- `rpki prepare`
abbrev pub prepare_text : List ℕ
prepare_text = concat (
    codes "usage: rpki prepare KIND [--issuer FILE].. --key FILE FIELD.. [OPTION]..\n"
    ∷ codes "       rpki prepare list --issuer FILE.. --next-update TIME [OPTION]..\n"
    ∷ codes "Writes what is to be signed (TBSCertificate, TBSCertList), if what becomes of it is"
    ∷ codes " valid.\n"
    ∷ codes "  KIND: ca, ee, detached, router or anchor\n"
    ∷ codes "  --issuer FILE         the issuer's path, from the trust anchor down; an anchor has"
    ∷ codes " none\n"
    ∷ codes "  --key FILE            the subject's public key (SubjectPublicKeyInfo)\n"
    ∷ codes "  --crl FILE            checks revocation on the issuer's path, with this and the other"
    ∷ codes " CRLs given\n"
    ∷ codes "  FIELD: --serial HEX, --from TIME, --until TIME, --ipv4 BLOCK, --ipv6 BLOCK, --as"
    ∷ codes " NUMBERS,\n"
    ∷ codes "    --repository URI, --manifest URI, --notify URI, --object URI, --issuer-uri URI,"
    ∷ codes " --crl-uri URI,\n"
    ∷ codes "    or --trim (RFC 8360)\n"
    ∷ codes "  of a list: --previous FILE, --number HEX, --revoke FILE, --serial HEX (of what is"
    ∷ codes " revoked)\n"
    ∷ codes "  --at TIME             the validation time; if left out, the clock's\n"
    ∷ codes "  --lenient             accepts names in UTF8Strings\n"
    ∷ codes "  --out FILE, --force   the file to write, and that it may replace one; if left out,"
    ∷ codes " standard output\n"
    ∷ codes "TIME is YYYY-MM-DD, YYYY-MM-DDTHH:MM:SSZ or YYYYMMDDHHMMSS.\n"
    ∷ codes "Exit status: 0 written, 1 refused, 2 wrong usage or value, 3 a file can't be read or"
    ∷ codes " written.\n"
    ∷ codes "Example: rpki prepare list --issuer anchor.cer --next-update 2027-01-01 --out new.tbs\n"
    ∷ [])

-- `rpki complete`
abbrev pub complete_text : List ℕ
complete_text = concat (
    codes "usage: rpki complete [--issuer FILE].. [OPTION].. PREPARED SIGNATURE\n"
    ∷ codes "Writes the certificate or CRL that a prepared file becomes by its signature, if it is"
    ∷ codes " valid.\n"
    ∷ codes "PREPARED is what 'rpki prepare' wrote, and SIGNATURE the bytes of the signature over it.\n"
    ∷ codes "  --issuer FILE         the issuer's path, from the trust anchor down; an anchor has"
    ∷ codes " none\n"
    ∷ codes "  --crl FILE            checks revocation, with this and the other CRLs given\n"
    ∷ codes "  --pem                 writes PEM, not DER\n"
    ∷ codes "  --at TIME             the validation time; if left out, the clock's\n"
    ∷ codes "  --lenient             accepts names in UTF8Strings\n"
    ∷ codes "  --out FILE, --force   the file to write, and that it may replace one; if left out,"
    ∷ codes " standard output\n"
    ∷ codes "TIME is YYYY-MM-DD, YYYY-MM-DDTHH:MM:SSZ or YYYYMMDDHHMMSS.\n"
    ∷ codes "Exit status: 0 written, 1 refused, 2 wrong usage or value, 3 a file can't be read or"
    ∷ codes " written.\n"
    ∷ codes "Example: rpki complete --issuer anchor.cer --out new.crl new.tbs new.sig\n"
    ∷ [])

-- the one about a command, or about all
abbrev pub help_text : Topic → List ℕ
help_text about.Show = show_text
help_text about.Validate = validate_text
help_text about.Tree = tree_usage
help_text about.Prepare = prepare_text
help_text about.Complete = complete_text
help_text about.All = usage_text

-- its version, with the name of the package, which isn't that of the Rust crate
abbrev pub version_text : List ℕ
version_text = codes "rpki (Gonxebhula) 0.2.0\nlogic: dac8208d650f15bf\n"

-- what is printed where nothing is asked of files
abbrev pub about_text : Task → Topic → List ℕ
about_text Show topic = []
about_text Validate topic = []
about_text Tree topic = []
about_text Help topic = help_text topic
about_text Version topic = version_text
