-- What is shown of a CRL (RFC 6487 5), as a document (own).
use Rattle.std.specs.Prelude.{ℕ, ◌||◌, nat_le, Bool, true, false, List, [], ◌∷◌, ◌++◌, length, map, take, codes}
use Rattle.rpki_crl.specs.Lists.{ListFields}
use Rattle.rpki_crl.specs.RevokedEntries.{Entry, Revoked}
use Rattle.rpki_der.specs.Times.{Moment}
use Rattle.rpki_document.specs.Documents.{ToldValue, words, count, printed, say, tell, show, Node, line, further, inside}
use Rattle.rpki_document.specs.Documents.{each, document_of, told_line}
use Rattle.rpki_parts.specs.NameTexts.{name_text}
use Rattle.rpki_answers.specs.ToldValues.{identifier_told, moment_told, serial_told, until_line}

-- how many revoked certificates are shown, unless all are asked for
abbrev pub few : ℕ
few = 5

-- a revoked certificate: its serial number, and since when it is revoked
abbrev pub revocation_node : ToldValue → ToldValue → Node
revocation_node serial date = inside [] (document_of (
    further (tell (codes "serial") serial ∷ say (codes "  ") ∷ tell (codes "date") date ∷ []) ∷ []))

abbrev pub entry_node : Entry → Node
entry_node e = revocation_node (serial_told e.serial) (moment_told e.date)

-- all of them, or the first few and two dots
abbrev pub entry_nodes : Bool → List Entry → List Node
entry_nodes true es = map entry_node es
entry_nodes false es = map entry_node (take few es) ++ further (say (codes "..") ∷ []) ∷ []

-- how many there are, and those that are shown: all where all are asked for or there are only a few
abbrev pub revoked_nodes : Bool → List Entry → List Node
revoked_nodes all es =
    line (codes "Revoked") (show (count (length es)) ∷ [])
    ∷ each (codes "revoked_certs") (document_of (entry_nodes (all || nat_le (length es) few) es))
    ∷ []

-- its issuer, the issuer's key, and its number
abbrev pub list_head : ListFields Revoked → List Node
list_head l =
    told_line (codes "Kind") (codes "type") (words (codes "CRL") (codes "crl"))
    ∷ told_line (codes "Issuer") (codes "crl_issuer") (printed (name_text l.issuer))
    ∷ told_line (codes "Authority key identifier") (codes "aki") (identifier_told l.extensions.authority_key_identifier)
    ∷ told_line (codes "CRL number") (codes "crl_serial") (serial_told l.extensions.crl_number)
    ∷ []

-- when it was issued, and when the next one is
abbrev pub update_nodes : Moment → Moment → Moment → List Node
update_nodes from until now =
    told_line (codes "This update") (codes "valid_since") (moment_told from)
    ∷ until_line (codes "Next update") (codes "valid_until") (codes "goes stale") (codes "went stale") from until now
    ∷ []

-- a CRL at a time, but for its signature
abbrev pub list_nodes : ListFields Revoked → Moment → Bool → List Node
list_nodes l now all =
    list_head l
    ++ (update_nodes l.this_update l.next_update now
    ++ revoked_nodes all l.revoked.entries)
