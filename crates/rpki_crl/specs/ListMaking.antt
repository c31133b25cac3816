-- Revocation lists that are made (RFC 6487 5).
use Rattle.std.specs.Prelude.{◌≡◌, ℕ, List, map, Option, Result, ◌⊎◌}
use Rattle.std.specs.Iterator.{Drains}
use Rattle.rpki_parts.specs.Signatures.{SignatureFields}
use Rattle.rpki_parts.specs.Signing.{IsRefusal}
use Rattle.rpki_parts.specs.declared.signature.SigningError.{SigningError}
use Rattle.rpki_parts.specs.declared.signature.SigningError.TheVariants.{Memory}
use Rattle.rpki_crl.specs.Lists.{ListFields, list_content, list_encoding}
use Rattle.rpki_crl.specs.RevokedEntries.{Entry, Revoked, entries}
use Rattle.rpki_crl.specs.RevokedEntries.Views.{entry_of}
use Rattle.rpki_crl.specs.declared.entry.CrlEntry.{CrlEntry}

-- some iterator that c becomes gives these entries, in their order, and then ends
abbrev pub AreGiven : {C It : Type 0} → (C → It → Type 0) → (It → Option CrlEntry → It → Type 0) → C → List Entry → Type 0
AreGiven {C} {It} into_iter next c es = (it : It) × (items : List CrlEntry) × into_iter c it × Drains next it items ×
    (es ≡ map entry_of items)

-- fields with these entries, as they are written
abbrev pub with_entries : {C : Type 0} → ListFields C → List Entry → ListFields Revoked
with_entries f es = record {
  algorithm = f.algorithm;
  issuer = f.issuer;
  this_update = f.this_update;
  next_update = f.next_update;
  revoked = record { entries = es; octets = entries es };
  extensions = f.extensions;
}

-- Why no list is made of the fields with the entries that are given, by a signer that may give
-- these answers of a message: it ran out of memory before the entries were there, or there is no
-- signed data.
abbrev pub IsListRefusal : {C E : Type 0} → ListFields C → (List Entry → Type 0)
    → (List ℕ → Result SignatureFields (SigningError E) → Type 0) → SigningError E → Type 0
IsListRefusal f Given MayAnswer e =
    (e ≡ Memory)
    ⊎ ((es : List Entry) × Given es
    × IsRefusal (list_content (with_entries f es)) (MayAnswer (list_encoding (with_entries f es))) e)
