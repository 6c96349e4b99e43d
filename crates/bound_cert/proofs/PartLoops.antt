-- Reading parts one after the other, as a loop does that keeps whether one asked for walking.
use Rattle.std.proofs.Common.{◌≡◌, ℕ, suc, ◌-◌, ◌+◌, ◌≤◌, ◌<◌, Bool, false, not, ◌||◌, ltb, List, [], ◌∷◌, ◌++◌, Ok, Err, refl, sym, ap, ◌∙◌, append-nil, arith}
use Rattle.bound_cert.specs.declared.cert.CertPart.{CertPart}
use Rattle.bound_cert.specs.declared.error.ReadError.{ReadError}
use Rattle.bound_cert.specs.declared.error.ReadError.TheVariants.{Bad, NoMemory}
use Rattle.bound_cert.specs.Given.{Fails}
use Rattle.bound_cert.specs.Reading.{Read, ◌>>=◌, part_at, parts_from}
use Rattle.bound_cert.proofs.ReaderLoops.{joined, pair_regroup, paired, regroup, with_front}
use Rattle.flex_model.specs.declared.feed.Feed.{Feed}
use Rattle.flex_model.specs.declared.times.Times.{Times}

module _ (feed : Feed) (times : Times) (two : Bool) where
  abbrev pub free : Bool → ℕ → Bool
  free asked left = (not two || asked) || ltb 0 left

  abbrev parts : Bool → ℕ → List ℕ → Read (List CertPart)
  parts asked left bytes = parts_from feed times two asked left bytes

  -- a part, and then the others
  abbrev then_others : Bool → ℕ → CertPart × List ℕ → Read (CertPart × List CertPart)
  then_others asked left x = parts (asked || x.0.walking) left x.1 >>= paired x.0

  pub begins_parts : (front : List CertPart) (count left : ℕ) (bytes : List ℕ) → front ≡ [] → left ≡ count → with_front front (parts false left bytes) ≡ parts false count bytes
  begins_parts front count left bytes none same =
      ap (λ (xs : List CertPart). with_front xs (parts false left bytes)) none ∙ by (parts false left bytes) ∙ ap (λ (n : ℕ). parts false n bytes) same
    where
      by : (r : Read (List CertPart)) → with_front [] r ≡ r
      by (Ok x) = refl
      by (Err f) = refl

  pub parts_go_on : (front : List CertPart) (count i : ℕ) (asked : Bool) (bytes : List ℕ) (part : CertPart) (after : List ℕ) (total : Read (List CertPart)) → i < count
      → part_at feed times two (free asked (count - (i + 1))) bytes ≡ Ok (part, after)
      → with_front front (parts asked (count - i) bytes) ≡ total → with_front (front ++ part ∷ []) (parts (asked || part.walking) (count - (i + 1)) after) ≡ total
  unfolding parts_from
  parts_go_on front count i asked bytes part after total lt h so_far =
      let k : count - i ≡ suc (count - (i + 1)) = omega arith in
      let others = parts (asked || part.walking) (count - (i + 1)) after in
      let one : with_front front (parts asked (count - i) bytes) ≡ with_front (front ++ part ∷ []) others =
      ap (λ (n : ℕ). with_front front (parts asked n bytes)) k
      ∙ ap (λ (r : Read CertPart). with_front front ((r >>= then_others asked (count - (i + 1))) >>= joined)) h
      ∙ ap (with_front front) (pair_regroup part others) ∙ regroup front part others in
      sym one ∙ so_far

  pub parts_end : (e : ReadError) (front : List CertPart) (count i : ℕ) (asked : Bool) (bytes : List ℕ) (total : Read (List CertPart)) → i < count
      → Fails e (part_at feed times two (free asked (count - (i + 1))) bytes)
      → with_front front (parts asked (count - i) bytes) ≡ total → Fails e total
  unfolding parts_from
  parts_end NoMemory front count i asked bytes total lt h so_far = tt
  parts_end (Bad left) front count i asked bytes total lt h so_far =
      let k : count - i ≡ suc (count - (i + 1)) = omega arith in
      sym so_far ∙ ap (λ (n : ℕ). with_front front (parts asked n bytes)) k
      ∙ ap (λ (r : Read CertPart). with_front front ((r >>= then_others asked (count - (i + 1))) >>= joined)) h

  pub parts_done : (front : List CertPart) (count i : ℕ) (asked : Bool) (bytes : List ℕ) (total : Read (List CertPart)) → count ≤ i
      → with_front front (parts asked (count - i) bytes) ≡ total → total ≡ Ok (front, bytes)
  unfolding parts_from
  parts_done front count i asked bytes total le so_far =
      let k : count - i ≡ 0 = omega arith in
      sym so_far ∙ ap (λ (n : ℕ). with_front front (parts asked n bytes)) k ∙ ap (λ (xs : List CertPart). Ok (xs, bytes)) (append-nil front)
