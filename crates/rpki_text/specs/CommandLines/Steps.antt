-- What the functions that read a command line say of an option.
use Rattle.std.specs.Prelude.{◌≡◌, ℕ, List, codes}
use Rattle.rpki_der.specs.Times.{Moment, IsMoment}
use Rattle.rpki_text.specs.MomentTexts.{IsMomentText}
use Rattle.rpki_text.specs.declared.command_line.arguments.Format.{Format}
use Rattle.rpki_text.specs.declared.command_line.arguments.Setting.{Setting}
use Rattle.rpki_text.specs.declared.command_line.arguments.Setting.TheVariants.{Crl, Tal, In, Depth, StepCount, At}
use Rattle.rpki_text.specs.declared.command_line.arguments.Setting.TheVariants.{MaxSize, Output, ShortOutput, Only}
use Rattle.rpki_text.specs.CommandLines.{IsFormatName, IsCountText, LinePart, list, locator, folder, depth, steps}
use Rattle.rpki_text.specs.CommandLines.{at_moment, max_size, output, only_rejected, RequestFields, setting_name}
use Rattle.rpki_text.specs.CommandLines.{with_part}

-- ---- options that take a value

-- the word is the option's name
abbrev pub IsOptionName : Setting → List ℕ → Type 0
IsOptionName setting word = word ≡ setting_name setting

-- the option with this value is the part
abbrev pub IsSetPart : Setting → List ℕ → LinePart → Type 0
IsSetPart Crl value part = part ≡ list value
IsSetPart Tal value part = part ≡ locator value
IsSetPart In value part = part ≡ folder value
IsSetPart At value part = (m : Moment) × (part ≡ at_moment m) × IsMoment m × IsMomentText m value
IsSetPart Depth value part = (n : ℕ) × (part ≡ depth n) × IsCountText n value
IsSetPart StepCount value part = (n : ℕ) × (part ≡ steps n) × IsCountText n value
IsSetPart MaxSize value part = (n : ℕ) × (part ≡ max_size n) × IsCountText n value
IsSetPart Output value part = (f : Format) × (part ≡ output f) × IsFormatName f value
IsSetPart ShortOutput value part = (f : Format) × (part ≡ output f) × IsFormatName f value
IsSetPart Only value part = (part ≡ only_rejected) × (value ≡ codes "rejected")

-- the new request has what the option with this value says too
abbrev pub AddsSet : Setting → List ℕ → RequestFields → RequestFields → Type 0
AddsSet setting value old new =
    (part : LinePart) × IsSetPart setting value part × (new ≡ with_part old part)
