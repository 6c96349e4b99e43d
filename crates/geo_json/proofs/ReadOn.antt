-- A walk over several values comes on by one, stops at one, or ends.
use Rattle.std.proofs.Common.{◌≡◌, ◌∙◌, ◌≤◌, ℕ, List, [], ◌∷◌, ◌++◌, None, ap, append_assoc, map, refl, suc, sym, subst}
use Rattle.std.proofs.lemmas.Grind.{flat_map-append}
use Rattle.std.proofs.lemmas.List.{map-append}
use Rattle.std.specs.List.{flat_map}
use Rattle.feed_meaning.specs.Locations.{Check}
use Rattle.geo_json.specs.Steps.{AreRead}
use Rattle.geo_json.specs.There.{AreThere, IsThere, is_value}
use Rattle.geo_json.specs.Walks.{Refuses, first_fault}
use Rattle.geo_json.specs.declared.refusal.WalkRefusal.{WalkRefusal}
use Rattle.geo_json.proofs.Firsts.{first_after, refuses_among}

-- The next value is there, and so are those behind it.
pub next_there : (bytes : List ℕ) (nodes : List ℕ) (n : ℕ) (more : List ℕ) → ((least : ℕ) × AreThere bytes least nodes) → nodes ≡ n ∷ more → IsThere bytes is_value n × AreThere bytes (suc n) more
next_there bytes nodes n more (least, there) e = let all = subst (AreThere bytes least) e there in (all.0, all.2)

pub next_above : (bytes : List ℕ) (least : ℕ) (nodes : List ℕ) (n : ℕ) (more : List ℕ) → AreThere bytes least nodes → nodes ≡ n ∷ more → least ≤ n
next_above bytes least nodes n more there e = (subst (AreThere bytes least) e there).1

-- Those that were read and the next one come before the others.
pub next_read : (items read left : List ℕ) (n : ℕ) (more : List ℕ) → items ≡ read ++ left → left ≡ n ∷ more → items ≡ (read ++ n ∷ []) ++ more
next_read items read left n more is e = is ∙ ap (λ z. read ++ z) e ∙ sym (append_assoc read (n ∷ []) more)

module _ {T : Type 0} (checks : ℕ → List Check) (value : ℕ → T) where
  pub none_read : AreRead checks value [] []
  none_read = record { faultless = refl; values = refl }

  pub one_more : (read : List ℕ) (made : List T) (n : ℕ) (v : T) → AreRead checks value read made → first_fault (checks n) ≡ None → v ≡ value n → AreRead checks value (read ++ n ∷ []) (made ++ v ∷ [])
  one_more read made n v so_far tells is = record {
    faultless = ap first_fault (flat_map-append checks read (n ∷ [])) ∙ first_after (flat_map checks read) (checks n ++ []) so_far.faultless ∙ first_after (checks n) [] tells;
    values = ap (λ z. z ++ v ∷ []) so_far.values ∙ ap (λ w. map value read ++ w ∷ []) is ∙ sym (map-append value read (n ∷ []));
  }

  pub stopped : (read items left rest : List ℕ) (made : List T) (n : ℕ) (refusal : WalkRefusal) → AreRead checks value read made
      → items ≡ read ++ left → left ≡ n ∷ rest → Refuses (checks n) refusal → Refuses (flat_map checks items) refusal
  stopped read items left rest made n refusal so_far are next refuses =
      let all : flat_map checks items ≡ flat_map checks read ++ (checks n ++ flat_map checks rest) = ap (flat_map checks) (are ∙ ap (λ z. read ++ z) next) ∙ flat_map-append checks read (n ∷ rest) in
      subst (λ row. Refuses row refusal) (sym all) (refuses_among (flat_map checks read) (checks n) (flat_map checks rest) refusal so_far.faultless refuses)

  pub all_read : (read items : List ℕ) (made : List T) → AreRead checks value read made → items ≡ read → AreRead checks value items made
  all_read read items made so_far e = subst (λ i. AreRead checks value i made) (sym e) so_far
