-- What is said of words that are no command line (own).
use Rattle.std.specs.Prelude.{ℕ, List, ◌++◌, codes}
use Rattle.rpki_document.specs.Texts.{characters_text}
use Rattle.rpki_text.specs.CommandLines.{setting_name}
use Rattle.rpki_text.specs.declared.command_line.arguments.Misuse.{Misuse}
use Rattle.rpki_text.specs.declared.command_line.arguments.Misuse.TheVariants.{NoTask, UnknownTask, Unknown, NoValue}
use Rattle.rpki_text.specs.declared.command_line.arguments.Misuse.TheVariants.{WrongValue, NoFile, OneFile, ListsIn}
use Rattle.rpki_text.specs.declared.command_line.arguments.Misuse.TheVariants.{NoLocator, NoLocatorIn, BoundsIn}
use Rattle.rpki_text.specs.declared.command_line.arguments.Misuse.TheVariants.{InputIn, NoAnchor, BothAnchors}
use Rattle.rpki_text.specs.declared.command_line.arguments.Misuse.TheVariants.{NoLists, BothLists, Memory}
use Rattle.rpki_text.specs.declared.command_line.arguments.Setting.{Setting}
use Rattle.rpki_text.specs.declared.command_line.arguments.Setting.TheVariants.{Crl, Tal, In, Depth, StepCount, At}
use Rattle.rpki_text.specs.declared.command_line.arguments.Setting.TheVariants.{MaxSize, Output, ShortOutput, Only}

-- what names a command
abbrev pub commands : List ℕ
commands = codes "show, validate, tree, prepare, complete, help or --version"

-- what a value of the option is called
abbrev pub value_kind : Setting → List ℕ
value_kind Crl = codes "a file"
value_kind Tal = codes "a file"
value_kind In = codes "a directory"
value_kind Depth = codes "a number below 2^64"
value_kind StepCount = codes "a number below 2^64"
value_kind At = codes "a time"
value_kind MaxSize = codes "a number below 2^64"
value_kind Output = codes "an output format"
value_kind ShortOutput = codes "an output format"
value_kind Only = codes "a verdict to print alone"

-- which values it takes
abbrev pub expected_value : Setting → List ℕ
expected_value Crl = codes "FILE"
expected_value Tal = codes "FILE"
expected_value In = codes "DIRECTORY"
expected_value Depth = codes "a number of certificates"
expected_value StepCount = codes "a number of certificates"
expected_value At = codes "YYYY-MM-DD[THH:MM:SSZ]"
expected_value MaxSize = codes "a number of bytes"
expected_value Output = codes "text, json or jsonl"
expected_value ShortOutput = codes "text, json or jsonl"
expected_value Only = codes "rejected"

-- the option with a value that it doesn't take
abbrev pub wrong_value_text : Setting → List ℕ → List ℕ
wrong_value_text setting value =
    setting_name setting ++ (codes " " ++ (characters_text value ++ (codes ": not " ++ (value_kind setting
    ++ (codes "; expected " ++ expected_value setting)))))

-- what is wrong first, and what is expected
abbrev pub misuse_text : Misuse → List ℕ
misuse_text NoTask = codes "no command; expected " ++ commands
misuse_text (UnknownTask word) =
    characters_text word.now ++ (codes ": not a command; expected " ++ commands)
misuse_text (Unknown word) = characters_text word.now ++ codes ": not an option of this command"
misuse_text (NoValue setting) =
    setting_name setting ++ (codes ": no value; expected " ++ expected_value setting)
misuse_text (WrongValue setting value) = wrong_value_text setting value.now
misuse_text NoFile = codes "no file; expected FILE"
misuse_text OneFile = codes "--in: expected exactly one FILE"
misuse_text ListsIn = codes "--crl: not accepted with --in, which finds CRLs in its directories"
misuse_text NoLocator = codes "no --tal; expected --tal FILE"
misuse_text NoLocatorIn = codes "--in: no --tal; expected --tal FILE"
misuse_text BoundsIn = codes "--depth and --steps: accepted only with --in"
misuse_text InputIn = codes "-: standard input can't be read twice; with --in, expected files"
misuse_text NoAnchor =
    codes "no trust anchor; expected --tal FILE, or --trust-first to trust the first file"
misuse_text BothAnchors = codes "--trust-first: not accepted with --tal"
misuse_text NoLists =
    codes "no CRL; expected --crl FILE or --in DIRECTORY, or --no-crl to check no revocation"
misuse_text BothLists = codes "--no-crl: not accepted with --crl or --in"
misuse_text Memory = codes "out of memory"
