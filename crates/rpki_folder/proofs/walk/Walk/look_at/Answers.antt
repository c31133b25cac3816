use Rattle.std.specs.Prelude.{Option, Some, None, Result, Ok, Err, IfOk}
use Rattle.std.proofs.Common.{◌≡◌, ℕ, List, refl, subst}
use Rattle.rpki_cert.specs.declared.inspect.Kind.{Kind}
use Rattle.rpki_cert.specs.declared.inspect.Kind.TheVariants.{Authority, EndEntity, Detached, Router}
use Rattle.rpki_cert.specs.Verification.{ResourceFields}
use Rattle.rpki_path.specs.declared.judging.Judged.{Judged}
use Rattle.rpki_path.specs.declared.path_fault.PathFault.{PathFault}
use Rattle.rpki_folder.specs.Folders.{string_at}
use Rattle.rpki_cert.specs.SaidKinds.{SaysKind, BeginsWithKind}
use Rattle.rpki_folder.specs.Walks.Steps.{GoesOn, Hands}
use Rattle.rpki_folder.proofs.StepAnswers.{octets_here}
use Rattle.rpki_folder.proofs.walk.Walk.look_at.Goals as goal

-- the walk goes on below the member that is handed on of a CA
goes_on_below : (verdict : Result Judged PathFault) (next : Option ResourceFields) → Hands verdict next →
    GoesOn Authority verdict next
goes_on_below verdict (Some r) is = (refl, is)
goes_on_below verdict None is = λ _. is

-- what holds of a value where another thing does
where_ok : {T E : Type 0} {P Q : T → Type 0} (r : Result T E) → IfOk r P → ((x : T) → P x → Q x) → IfOk r Q
where_ok (Ok x) h f = f x h
where_ok (Err e) h f = tt

pub returns-in-Authority-clause-ok : goal.returns-in-Authority-clause-ok
returns-in-Authority-clause-ok g c = λ v ts heard.
    let certs = c.args.self.now.folder.now.certs in
    let octets : c.index-certs-place.result ≡ string_at certs c.args.place =
    octets_here certs c.certs.result.now c.args.place c.index-certs-place.result c.certs.ensures
    c.index-certs-place.is c.requires.place in
    let said = c.said.ensures in
    let kind : SaysKind Authority said.0.fields = subst (λ (k : Kind). SaysKind k said.0.fields) c.in-Authority.is
    said.2.kind_is in
    let says : BeginsWithKind Authority (string_at certs c.args.place) =
    subst (λ (o : List ℕ). BeginsWithKind Authority o) octets (said.0, said.1, kind) in
    where_ok c.tell_member.result (c.tell_member.ensures.ok v ts heard) (λ next h.
    (h.0, h.1, record { kind = Authority; says = says; answer = h.2; goes_on = goes_on_below h.0 next h.3 }))

pub returns-in_ok-tell_member-in-EndEntity-clause-ok : goal.returns-in_ok-tell_member-in-EndEntity-clause-ok
returns-in_ok-tell_member-in-EndEntity-clause-ok g c = λ v ts heard.
    let certs = c.args.self.now.folder.now.certs in
    let octets : c.index-certs-place.result ≡ string_at certs c.args.place =
    octets_here certs c.certs.result.now c.args.place c.index-certs-place.result c.certs.ensures
    c.index-certs-place.is c.requires.place in
    let said = c.said.ensures in
    let kind : SaysKind EndEntity said.0.fields = subst (λ (k : Kind). SaysKind k said.0.fields) c.in-EndEntity.is
    said.2.kind_is in
    let says : BeginsWithKind EndEntity (string_at certs c.args.place) =
    subst (λ (o : List ℕ). BeginsWithKind EndEntity o) octets (said.0, said.1, kind) in
    let h = c.in_ok-tell_member-in-EndEntity.ensures.ok v ts heard in
    (h.0, h.1, record { kind = EndEntity; says = says; answer = h.2; goes_on = λ e. absurd (cc e) })

pub returns-in_ok-tell_member-in-Detached-clause-ok : goal.returns-in_ok-tell_member-in-Detached-clause-ok
returns-in_ok-tell_member-in-Detached-clause-ok g c = λ v ts heard.
    let certs = c.args.self.now.folder.now.certs in
    let octets : c.index-certs-place.result ≡ string_at certs c.args.place =
    octets_here certs c.certs.result.now c.args.place c.index-certs-place.result c.certs.ensures
    c.index-certs-place.is c.requires.place in
    let said = c.said.ensures in
    let kind : SaysKind Detached said.0.fields = subst (λ (k : Kind). SaysKind k said.0.fields) c.in-Detached.is
    said.2.kind_is in
    let says : BeginsWithKind Detached (string_at certs c.args.place) =
    subst (λ (o : List ℕ). BeginsWithKind Detached o) octets (said.0, said.1, kind) in
    let h = c.in_ok-tell_member-in-Detached.ensures.ok v ts heard in
    (h.0, h.1, record { kind = Detached; says = says; answer = h.2; goes_on = λ e. absurd (cc e) })

pub returns-in_ok-tell_router-in-Router-clause-ok : goal.returns-in_ok-tell_router-in-Router-clause-ok
returns-in_ok-tell_router-in-Router-clause-ok g c = λ v ts heard.
    let certs = c.args.self.now.folder.now.certs in
    let octets : c.index-certs-place.result ≡ string_at certs c.args.place =
    octets_here certs c.certs.result.now c.args.place c.index-certs-place.result c.certs.ensures
    c.index-certs-place.is c.requires.place in
    let said = c.said.ensures in
    let kind : SaysKind Router said.0.fields = subst (λ (k : Kind). SaysKind k said.0.fields) c.in-Router.is
    said.2.kind_is in
    let says : BeginsWithKind Router (string_at certs c.args.place) =
    subst (λ (o : List ℕ). BeginsWithKind Router o) octets (said.0, said.1, kind) in
    let h = c.in_ok-tell_router-in-Router.ensures.ok v ts heard in
    (h.0, h.1, record { kind = Router; says = says; answer = h.2; goes_on = λ e. absurd (cc e) })
