-- Values of the RPKI in documents.
use Rattle.std.specs.Prelude.{ℕ, ◌==◌, if◌then◌else◌, List, [], ◌∷◌, ◌++◌, map, codes, Option, Some, None}
use Rattle.rpki_blocks.specs.AddressBits.{is_prefix, prefix_bits}
use Rattle.rpki_blocks.specs.Resources.{Resources, missing, inherit, blocks}
use Rattle.rpki_blocks.specs.Sets.{Block}
use Rattle.rpki_cert.specs.declared.inspect.Kind.{Kind}
use Rattle.rpki_cert.specs.declared.inspect.Kind.TheVariants.{Anchor, Authority, EndEntity, Detached, Router}
use Rattle.rpki_der.specs.Texts.{serial_text, time_text}
use Rattle.rpki_der.specs.Times.{Moment}
use Rattle.rpki_der.specs.Timestamps.{timestamp}
use Rattle.rpki_document.specs.Documents.{ToldValue, text, words, count, flag, dated, Span, say, tell, show, keep, Node}
use Rattle.rpki_document.specs.Documents.{line, further, inside, document_of, item_node, kept_node, told_line}
use Rattle.rpki_ext.specs.CertificateExtensions.{ExtensionFields}
use Rattle.rpki_keys.specs.declared.form.KeyForm.{KeyForm}
use Rattle.rpki_keys.specs.declared.form.KeyForm.TheVariants.{RsaKey, EvenModulus, NoRsaKey, Point, OffCurve, CompressedPoint, NoPoint}
use Rattle.rpki_parts.specs.Keys.{KeyFields}
use Rattle.rpki_text.specs.BlockLines.{family_address_text, family_text}
use Rattle.rpki_text.specs.KeyTexts.{point_text}
use Rattle.rpki_document.specs.Texts.{colons_text}
use Rattle.rpki_text.specs.Periods.{state_text}
use Rattle.rpki_text.specs.declared.blocks.Family.{Family}
use Rattle.rpki_text.specs.declared.blocks.Family.TheVariants.{V4, V6}
use Rattle.rpki_text.specs.declared.keys.KeyAnswer.{KeyAnswer}

-- what a certificate is (RFC 6487 4, RFC 8209 3)
abbrev pub kind_told : Kind → ToldValue
kind_told Anchor = words (codes "trust anchor") (codes "ta")
kind_told Authority = words (codes "CA") (codes "ca")
kind_told EndEntity = words (codes "EE") (codes "ee")
kind_told Detached = words (codes "detached EE") (codes "detached_ee")
kind_told Router = words (codes "BGPsec router") (codes "router")

-- a serial number: its octets in hexadecimal
abbrev pub serial_told : ℕ → ToldValue
serial_told serial = text (serial_text serial)

-- a time: as ISO 8601 has it, and in seconds from 1970-01-01T00:00:00Z
abbrev pub moment_told : Moment → ToldValue
moment_told m = dated (time_text m) (timestamp m)

-- the identifier of a key
abbrev pub identifier_told : List ℕ → ToldValue
identifier_told octets = text (colons_text octets)

-- the end of a period, and its state at a time in parentheses
abbrev pub until_line : List ℕ → List ℕ → List ℕ → List ℕ → Moment → Moment → Moment → Node
until_line label key ends ended from until now = line label (
    tell key (moment_told until) ∷ say (codes " (") ∷ show (text (state_text ends ended from until now))
    ∷ say (codes ")") ∷ [])

-- that the signature of an object isn't checked where it is shown
abbrev pub signature_line : Node
signature_line = told_line (codes "Signature") (codes "signature") (
    words (codes "not checked (rpki validate checks those of a path)") (codes "not checked"))

-- that there is none
abbrev pub unsigned_line : Node
unsigned_line = told_line (codes "Signature") (codes "signature") (
    words (codes "none, this is the to-be-signed part (RFC 5280 4.1, 5.1)") (codes "none"))

-- ---- keys

-- the algorithm of a key of this form
abbrev pub algorithm_word : KeyForm → List ℕ
algorithm_word (RsaKey bits exponent) = codes "RSA"
algorithm_word EvenModulus = codes "RSA"
algorithm_word NoRsaKey = codes "RSA"
algorithm_word _ = codes "ECDSA P-256"

-- the form of a key
abbrev pub form_word : KeyForm → List ℕ
form_word (RsaKey bits exponent) = codes "RSAPublicKey"
form_word EvenModulus = codes "even modulus"
form_word NoRsaKey = codes "no RSAPublicKey"
form_word Point = codes "uncompressed point"
form_word OffCurve = codes "point off the curve"
form_word CompressedPoint = codes "compressed point"
form_word NoPoint = codes "no point"

-- the exponent of an RSA key, if it is below 2^64
abbrev pub exponent_nodes : Option ℕ → List Node
exponent_nodes None = []
exponent_nodes (Some e) = kept_node (codes "exponent") (count e) ∷ []

-- the numbers of an RSA key
abbrev pub form_nodes : KeyForm → List Node
form_nodes (RsaKey bits exponent) = kept_node (codes "bits") (count bits) ∷ exponent_nodes exponent
form_nodes _ = []

-- the point of a key on a curve, under a label or in no line
abbrev pub point_node : Option (List ℕ) → ToldValue → Node
point_node None point = kept_node (codes "point") point
point_node (Some label) point = told_line label (codes "point") point

-- if it is one
abbrev pub point_nodes : Option (List ℕ) → Option (List ℕ) → List Node
point_nodes label None = []
point_nodes label (Some point) = point_node label (text point) ∷ []

-- a key of which this was found, and what is said of it
abbrev pub key_nodes : List ℕ → ToldValue → Option (List ℕ) → KeyFields → KeyAnswer → List Node
key_nodes label said point_label key found =
    line label (
    show said ∷ keep (codes "algorithm") (text (algorithm_word found.form))
    ∷ keep (codes "form") (text (form_word found.form)) ∷ keep (codes "usable") (flag found.is_usable) ∷ [])
    ∷ (form_nodes found.form ++ point_nodes point_label (point_text key))

-- ---- resources

-- a line under a label, or one more under the label above
abbrev pub line_under : Option (List ℕ) → List Span → Node
line_under None spans = further spans
line_under (Some label) spans = line label spans

-- a block that is one value, under a key of its own
abbrev pub single_node : Option (List ℕ) → List ℕ → ToldValue → Node
single_node label key told = inside [] (document_of (line_under label (tell key told ∷ []) ∷ []))

-- a block by its two ends
abbrev pub ends_node : Option (List ℕ) → List ℕ → ToldValue → ToldValue → Node
ends_node label key min max = inside [] (document_of (
    inside key (document_of (
    line_under label (tell (codes "min") min ∷ say (codes "-") ∷ tell (codes "max") max ∷ []) ∷ []))
    ∷ []))

-- AS numbers: the one, or the two ends
abbrev pub numbers_node : Option (List ℕ) → Block → Node
numbers_node label b =
    if b.min == b.max then single_node label (codes "asid") (count b.min)
    else ends_node label (codes "asrange") (count b.min) (count b.max)

-- addresses of a family: the prefix, if the block is one, else the two ends
abbrev pub addresses_node : Family → Option (List ℕ) → Block → Node
addresses_node family label b =
    if is_prefix b (prefix_bits b) then single_node label (codes "ip_prefix") (text (family_text family b))
    else ends_node label (codes "ip_range")
    (text (family_address_text family b.min)) (text (family_address_text family b.max))

-- a set: a line for each block, and `none` of the empty set
abbrev pub set_nodes : (Option (List ℕ) → Block → Node) → List ℕ → List Block → List Node
set_nodes node label [] = line label (say (codes "none") ∷ []) ∷ []
set_nodes node label (b ∷ bs) = node (Some label) b ∷ map (node None) bs

-- what a certificate lists of a kind: its set, or that the issuer's is meant, or nothing
abbrev pub resource_nodes : (Option (List ℕ) → Block → Node) → List ℕ → List ℕ → Resources → List Node
resource_nodes node label name missing = []
resource_nodes node label name inherit =
    item_node label (say (codes "inherited") ∷ keep name (text (codes "inherit")) ∷ []) ∷ []
resource_nodes node label name (blocks bs) = set_nodes node label bs

-- what a certificate lists, under these labels
abbrev pub listed_nodes : List ℕ → List ℕ → List ℕ → ExtensionFields → List Node
listed_nodes numbers ipv4 ipv6 x =
    resource_nodes numbers_node numbers (codes "as_inherit") x.as_resources
    ++ (resource_nodes (addresses_node V4) ipv4 (codes "ip4_inherit") x.v4_resources
    ++ resource_nodes (addresses_node V6) ipv6 (codes "ip6_inherit") x.v6_resources)
