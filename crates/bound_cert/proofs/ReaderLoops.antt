-- Reading values one after the other, as a loop does.
use Rattle.std.proofs.Common.{◌≡◌, ℕ, suc, ◌-◌, ◌+◌, ◌≤◌, ◌<◌, List, [], ◌∷◌, ◌++◌, Ok, Err, refl, sym, ap, ◌∙◌, append_assoc, append-nil, arith}
use Rattle.bound_cert.specs.declared.error.ReadError.{ReadError}
use Rattle.bound_cert.specs.declared.error.ReadError.TheVariants.{Bad, NoMemory}
use Rattle.bound_cert.specs.Given.{Fails}
use Rattle.bound_cert.specs.Reading.{Read, ◌>>=◌, each_from}

-- what was read before, and what is still read
abbrev pub with_front : {A : Type 0} → List A → Read (List A) → Read (List A)
with_front front read = read >>= λ x. Ok (front ++ x.0, x.1)

abbrev pub paired : {A B : Type 0} → A → B × List ℕ → Read (A × B)
paired x y = Ok ((x, y.0), y.1)

abbrev pub joined : {A : Type 0} → (A × List A) × List ℕ → Read (List A)
joined p = Ok (p.0.0 ∷ p.0.1, p.1)

abbrev pub before_all : {A : Type 0} → A → List A × List ℕ → Read (List A)
before_all x y = Ok (x ∷ y.0, y.1)

pub regroup : {A : Type 0} (front : List A) (x : A) (read : Read (List A)) → with_front front (read >>= before_all x) ≡ with_front (front ++ x ∷ []) read
regroup {A = A} front x (Ok y) = ap (λ (xs : List A). Ok (xs, y.1)) (sym (append_assoc front (x ∷ []) y.0))
regroup front x (Err f) = refl

pub pair_regroup : {A : Type 0} (x : A) (read : Read (List A)) → ((read >>= paired x) >>= joined) ≡ (read >>= before_all x)
pair_regroup x (Ok y) = refl
pair_regroup x (Err f) = refl

module _ {A : Type 0} (read : ℕ → List ℕ → Read A) where
  -- a value, and then the others
  abbrev then_others : ℕ → ℕ → A × List ℕ → Read (A × List A)
  then_others k n x = each_from read k n x.1 >>= paired x.0

  pub begins_loop : (front : List A) (count left : ℕ) (bytes : List ℕ) → front ≡ [] → left ≡ count → with_front front (each_from read 1 left bytes) ≡ each_from read 1 count bytes
  begins_loop front count left bytes none same =
      ap (λ (xs : List A). with_front xs (each_from read 1 left bytes)) none ∙ by (each_from read 1 left bytes) ∙ ap (λ (n : ℕ). each_from read 1 n bytes) same
    where
      by : (r : Read (List A)) → with_front [] r ≡ r
      by (Ok x) = refl
      by (Err f) = refl

  pub goes_on : (front : List A) (count i : ℕ) (bytes : List ℕ) (x : A) (after : List ℕ) (total : Read (List A)) → i < count → read (i + 1) bytes ≡ Ok (x, after)
      → with_front front (each_from read (i + 1) (count - i) bytes) ≡ total → with_front (front ++ x ∷ []) (each_from read (i + 1 + 1) (count - (i + 1)) after) ≡ total
  unfolding each_from
  goes_on front count i bytes x after total lt h so_far =
      let k : count - i ≡ suc (count - (i + 1)) = omega arith in
      let others = each_from read (i + 1 + 1) (count - (i + 1)) after in
      let one : with_front front (each_from read (i + 1) (count - i) bytes) ≡ with_front (front ++ x ∷ []) others =
      ap (λ (n : ℕ). with_front front (each_from read (i + 1) n bytes)) k
      ∙ ap (λ (r : Read A). with_front front ((r >>= then_others (i + 1 + 1) (count - (i + 1))) >>= joined)) h
      ∙ ap (with_front front) (pair_regroup x others) ∙ regroup front x others in
      sym one ∙ so_far

  pub ends : (e : ReadError) (front : List A) (count i : ℕ) (bytes : List ℕ) (total : Read (List A)) → i < count → Fails e (read (i + 1) bytes)
      → with_front front (each_from read (i + 1) (count - i) bytes) ≡ total → Fails e total
  unfolding each_from
  ends NoMemory front count i bytes total lt h so_far = tt
  ends (Bad left) front count i bytes total lt h so_far =
      let k : count - i ≡ suc (count - (i + 1)) = omega arith in
      sym so_far ∙ ap (λ (n : ℕ). with_front front (each_from read (i + 1) n bytes)) k
      ∙ ap (λ (r : Read A). with_front front ((r >>= then_others (i + 1 + 1) (count - (i + 1))) >>= joined)) h

  pub is_done : (front : List A) (count i : ℕ) (bytes : List ℕ) (total : Read (List A)) → count ≤ i → with_front front (each_from read (i + 1) (count - i) bytes) ≡ total → total ≡ Ok (front, bytes)
  unfolding each_from
  is_done front count i bytes total le so_far =
      let k : count - i ≡ 0 = omega arith in
      sym so_far ∙ ap (λ (n : ℕ). with_front front (each_from read (i + 1) n bytes)) k ∙ ap (λ (xs : List A). Ok (xs, bytes)) (append-nil front)
