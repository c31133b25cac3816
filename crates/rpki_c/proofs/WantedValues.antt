-- What is wrong of a part of what is wanted of a certificate is wrong of the whole.
use Rattle.std.proofs.Common.{List, arith, inl, inr, map, refl}
use Rattle.std.specs.Prelude.{Err}
use Rattle.rpki_blocks.specs.Resources.{Resources}
use Rattle.rpki_blocks.specs.Sets.{Block}
use Rattle.rpki_issuing.specs.ValueTexts.{IsHttpsText, IsRsyncText}
use Rattle.rpki_c.specs.WantedAnswers.{AnswersValue, GivesValues}
use Rattle.rpki_c.specs.WantedQuestions.{AreBlocks, AreResourcesGiven, AreOrdered, GivesWantedNumbers}
use Rattle.rpki_c.specs.WantedQuestions.{GivesWantedUris, GivesWantedValues}
use Rattle.rpki_c.specs.WantedQuestions.{IsKeyGiven, IsUriGiven, as_span, v4_span, v6_span}
use Rattle.rpki_c.specs.declared.unissued.Unissued.{Unissued}
use Rattle.rpki_c.specs.declared.unissued.Unissued.TheVariants.{BadCall, Memory, NoKey, UnusedKey, BadUri}
use Rattle.rpki_c.specs.declared.wanted.RpkiWanted.{RpkiWanted}
use Rattle.rpki_c.specs.declared.wanted.WantedTerms.{WantedTerms}

module _ (w : RpkiWanted) where
  part_wrong : {A B : Type 0} (P : A → Type 0) (Q : B → Type 0) → ((b : B) → Q b → (a : A) × P a) → (e : Unissued) →
      AnswersValue w P (Err e) → AnswersValue w Q (Err e)
  part_wrong P Q part BadCall h = λ b q. let (a, p) = part b q in h a p
  part_wrong P Q part Memory h = tt
  part_wrong P Q part NoKey h = h
  part_wrong P Q part UnusedKey h = h
  part_wrong P Q part (BadUri which) h = h
  part_wrong P Q part _ h = absurd h

  -- ---- numbers

  ordered_of : (bs : List Block) (r : Resources) → AreResourcesGiven 2 bs r → AreOrdered bs
  ordered_of bs r (inl h) = absurd (omega (arith, h.0))
  ordered_of bs r (inr (inl h)) = absurd (omega (arith, h.0))
  ordered_of bs r (inr (inr h)) = h.2

  pub no_blocks : (bs : List Block) (e : Unissued) → AnswersValue w (AreBlocks bs) (Err e) →
      AnswersValue w (AreResourcesGiven 2 bs) (Err e)
  no_blocks bs = part_wrong (AreBlocks bs) (AreResourcesGiven 2 bs) (λ r h. (bs, (refl, ordered_of bs r h)))

  pub no_v4 : (e : Unissued) → AnswersValue w (AreResourcesGiven w.v4.state (map v4_span w.v4.ranges.now)) (Err e) →
      AnswersValue w (GivesWantedNumbers w) (Err e)
  no_v4 = part_wrong (AreResourcesGiven w.v4.state (map v4_span w.v4.ranges.now)) (GivesWantedNumbers w)
      (λ it h. (it.v4, h.v4_is))

  pub no_v6 : (e : Unissued) → AnswersValue w (AreResourcesGiven w.v6.state (map v6_span w.v6.ranges.now)) (Err e) →
      AnswersValue w (GivesWantedNumbers w) (Err e)
  no_v6 = part_wrong (AreResourcesGiven w.v6.state (map v6_span w.v6.ranges.now)) (GivesWantedNumbers w)
      (λ it h. (it.v6, h.v6_is))

  pub no_systems : (e : Unissued) →
      AnswersValue w (AreResourcesGiven w.asn.state (map as_span w.asn.ranges.now)) (Err e) →
      AnswersValue w (GivesWantedNumbers w) (Err e)
  no_systems = part_wrong (AreResourcesGiven w.asn.state (map as_span w.asn.ranges.now)) (GivesWantedNumbers w)
      (λ it h. (it.systems, h.systems_is))

  -- ---- URIs

  pub no_repository : (e : Unissued) → AnswersValue w (IsUriGiven IsRsyncText w.uris.repository.now) (Err e) →
      AnswersValue w (GivesWantedUris w.uris) (Err e)
  no_repository = part_wrong (IsUriGiven IsRsyncText w.uris.repository.now) (GivesWantedUris w.uris)
      (λ it h. (it.repository, h.repository_is))

  pub no_manifest : (e : Unissued) → AnswersValue w (IsUriGiven IsRsyncText w.uris.manifest.now) (Err e) →
      AnswersValue w (GivesWantedUris w.uris) (Err e)
  no_manifest = part_wrong (IsUriGiven IsRsyncText w.uris.manifest.now) (GivesWantedUris w.uris)
      (λ it h. (it.manifest, h.manifest_is))

  pub no_object : (e : Unissued) → AnswersValue w (IsUriGiven IsRsyncText w.uris.signed_object.now) (Err e) →
      AnswersValue w (GivesWantedUris w.uris) (Err e)
  no_object = part_wrong (IsUriGiven IsRsyncText w.uris.signed_object.now) (GivesWantedUris w.uris)
      (λ it h. (it.object, h.object_is))

  pub no_notify : (e : Unissued) → AnswersValue w (IsUriGiven IsHttpsText w.uris.notify.now) (Err e) →
      AnswersValue w (GivesWantedUris w.uris) (Err e)
  no_notify = part_wrong (IsUriGiven IsHttpsText w.uris.notify.now) (GivesWantedUris w.uris)
      (λ it h. (it.notify, h.notify_is))

  pub no_issuer : (e : Unissued) → AnswersValue w (IsUriGiven IsRsyncText w.uris.ca_issuer.now) (Err e) →
      AnswersValue w (GivesWantedUris w.uris) (Err e)
  no_issuer = part_wrong (IsUriGiven IsRsyncText w.uris.ca_issuer.now) (GivesWantedUris w.uris)
      (λ it h. (it.issuer, h.issuer_is))

  pub no_list : (e : Unissued) → AnswersValue w (IsUriGiven IsRsyncText w.uris.crl.now) (Err e) →
      AnswersValue w (GivesWantedUris w.uris) (Err e)
  no_list = part_wrong (IsUriGiven IsRsyncText w.uris.crl.now) (GivesWantedUris w.uris) (λ it h. (it.list, h.list_is))

  -- ---- the whole

  module _ (t : WantedTerms) where
    pub no_numbers : (e : Unissued) → AnswersValue w (GivesWantedNumbers w) (Err e) →
        AnswersValue w (GivesWantedValues w t) (Err e)
    no_numbers = part_wrong (GivesWantedNumbers w) (GivesWantedValues w t) (λ it h. (it.numbers, h.numbers_are))

    pub no_places : (e : Unissued) → AnswersValue w (GivesWantedUris w.uris) (Err e) →
        AnswersValue w (GivesWantedValues w t) (Err e)
    no_places = part_wrong (GivesWantedUris w.uris) (GivesWantedValues w t) (λ it h. (it.places, h.places_are))

    pub no_wanted : (e : Unissued) → AnswersValue w (GivesWantedValues w t) (Err e) →
        AnswersValue w (GivesValues w t) (Err e)
    no_wanted = part_wrong (GivesWantedValues w t) (GivesValues w t) (λ it h. (it.0, h.0))

    pub no_key : (e : Unissued) → AnswersValue w (IsKeyGiven w.key.now) (Err e) →
        AnswersValue w (GivesValues w t) (Err e)
    no_key = part_wrong (IsKeyGiven w.key.now) (GivesValues w t) (λ it h. (it.1, h.1))
