-- Moments by the parts of their date and time (own).
use Rattle.rpki_der.specs.Times.{Moment, moment}
use Rattle.rpki_c.specs.declared.moments.RpkiTime.{RpkiTime}

-- the moment of these parts
abbrev pub moment_of_parts : RpkiTime → Moment
moment_of_parts it = moment it.year it.month it.day it.hour it.minute it.second
