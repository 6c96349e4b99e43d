-- Records that are numbered in two or three levels, in one sequence.
use Rattle.std.proofs.Common.{◌≡◌, ℕ, ◌/◌, ◌%◌, filter, map, not, refl}
use Rattle.std.specs.Prelude.{◌==◌}
use Rattle.std.specs.List.{flat_map}
use Rattle.feed_gen.specs.Texts.{below}

pub trips_in_order : {X : Type 0} (f : ℕ → ℕ → X)
    → flat_map (λ l. map (λ k. f l k) (below 24)) (below 10) ≡ map (λ t. f (t / 24) (t % 24)) (below 240)
unfolding below
trips_in_order f = refl

pub stop_times_in_order : {X : Type 0} (f : ℕ → ℕ → ℕ → X)
    → flat_map (λ l. flat_map (λ k. map (λ v. f l k v) (below 8)) (below 24)) (below 10)
    ≡ map (λ i. f (i / 192) (i / 8 % 24) (i % 8)) (below 1920)
unfolding below
stop_times_in_order f = refl

pub pairs_in_order : {X : Type 0} (f : ℕ → ℕ → X)
    → flat_map (λ a. map (λ b. f a b) (filter (λ b. not (a == b)) (below 40))) (below 40)
    ≡ map (λ i. f (i / 40) (i % 40)) (filter (λ i. not (i / 40 == i % 40)) (below 1600))
unfolding below
pairs_in_order f = refl

pub points_in_order : {X : Type 0} (f : ℕ → ℕ → X)
    → flat_map (λ i. map (λ b. f i b) (below 40)) (below 10) ≡ map (λ j. f (j / 40) (j % 40)) (below 400)
unfolding below
points_in_order f = refl
