-- What contracts see of what is asked.
use Rattle.std.specs.Prelude.{map}
use Rattle.rpki_requests.specs.declared.words.Order.{Order}
use Rattle.rpki_requests.specs.declared.words.Given.{Given}
use Rattle.rpki_requests.specs.RequestWords.{AskedFields, OptionFields}

-- an option with its value
abbrev pub given_fields : Given → OptionFields
given_fields g = record { setting = g.setting; value = g.value.now }

-- what is asked
abbrev pub asked_fields : Order → AskedFields
asked_fields asked = record {
  errand = asked.errand;
  given = map given_fields asked.given.items;
  files = map (λ name. name.now) asked.files.items;
  trims = asked.trims;
  strict = asked.strict;
  is_pem = asked.is_pem;
  overwrites = asked.overwrites;
}
