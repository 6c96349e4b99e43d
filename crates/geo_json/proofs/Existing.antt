-- Each text has a scan: a machine that reads the text finds its fault or its end.
use Rattle.std.proofs.Common.{◌≡◌, ◌∙◌, ℕ, zero, suc, ◌<◌, ◌≤◌, List, [], ◌∷◌, ◌++◌, ◌⊎◌, inl, inr, Bool, true, false, arith, drop, get_or, length, nat_le, refl, subst, sym, take}
use Rattle.std.proofs.Math.Seq.{take-length, take-suc}
use Rattle.std.proofs.lemmas.Bool.Decides.{nat_tests}
use Rattle.std.proofs.lemmas.List.{take-append-drop}
use Rattle.feed_meaning.specs.Locations.{Scan, depth_fault, scanned, syntax_fault}
use Rattle.json_text.specs.Grammar.{BeginsJson}
use Rattle.json_text.specs.Machine.{MachineAcceptsTheGrammar, MachineAcceptsWithin, PrefixIsAlive, State, StaysWithin, is_end, is_fault, run, stack_of, start, step}
use Rattle.json_text.specs.Refusal.{greatest_depth}
use Rattle.json_text.specs.Scanning.{DepthIsFound, FaultIsFound}
use Rattle.geo_json.specs.Laws.{TextsHaveScans}
use Rattle.geo_json.specs.Scans.{IsScanOf, json_of}

stays_more : (levels : ℕ) (state : State) (xs : List ℕ) (b : ℕ) → StaysWithin levels state xs → length (stack_of (run state (xs ++ b ∷ []))) ≤ levels → is_fault (run state (xs ++ b ∷ [])) ≡ false
    → StaysWithin levels state (xs ++ b ∷ [])
stays_more levels state [] b s l f = (s.0, (l, f))
stays_more levels state (x ∷ xs) b s l f = (s.0, stays_more levels (step state x) xs b s.1 l f)

within : (n m : ℕ) → nat_le n m ≡ true → n ≤ m
within n m e = grind (arith, nat_tests)

beyond : (n m : ℕ) → nat_le n m ≡ false → m < n
beyond n m e = grind (arith, nat_tests)

-- The machine is stopped there by a fault, or by a bracket that opens a level too many.
record StopsAt (bytes : List ℕ) (at : ℕ) : Type 0 where
  here : at < length bytes
  stays : StaysWithin greatest_depth start (take at bytes)
  cause : (is_fault (run start (take (suc at) bytes)) ≡ true) ⊎ ((is_fault (run start (take (suc at) bytes)) ≡ false) × (greatest_depth < length (stack_of (run start (take (suc at) bytes)))))

one_on : (bytes : List ℕ) (k : ℕ) → k < length bytes → StaysWithin greatest_depth start (take k bytes) → StaysWithin greatest_depth start (take (suc k) bytes) ⊎ ((at : ℕ) × StopsAt bytes at)
one_on bytes k l stays = by (is_fault (run start (take (suc k) bytes))) refl (nat_le (length (stack_of (run start (take (suc k) bytes)))) greatest_depth) refl
  where
    by : (f : Bool) → is_fault (run start (take (suc k) bytes)) ≡ f → (w : Bool) → nat_le (length (stack_of (run start (take (suc k) bytes)))) greatest_depth ≡ w
        → StaysWithin greatest_depth start (take (suc k) bytes) ⊎ ((at : ℕ) × StopsAt bytes at)
    by true e w d = inr (k, record { here = l; stays = stays; cause = inl e })
    by false e true d =
        let more = take-suc bytes k 0 l in
        inl (subst (StaysWithin greatest_depth start) (sym more) (stays_more greatest_depth start (take k bytes) (get_or bytes k 0) stays
        (subst (λ z. length (stack_of (run start z)) ≤ greatest_depth) more (within _ greatest_depth d)) (subst (λ z. is_fault (run start z) ≡ false) more e)))
    by false e false d = inr (k, record { here = l; stays = stays; cause = inr (e, beyond _ greatest_depth d) })

goes : (bytes : List ℕ) (k : ℕ) → k ≤ length bytes → StaysWithin greatest_depth start (take k bytes) ⊎ ((at : ℕ) × StopsAt bytes at)
goes bytes zero l = inl (omega arith, refl)
goes bytes (suc k) l = on (goes bytes k (omega (arith, l)))
  where
    on : StaysWithin greatest_depth start (take k bytes) ⊎ ((at : ℕ) × StopsAt bytes at) → StaysWithin greatest_depth start (take (suc k) bytes) ⊎ ((at : ℕ) × StopsAt bytes at)
    on (inl stays) = one_on bytes k (omega (arith, l)) stays
    on (inr stops) = inr stops

module _ (accepts : MachineAcceptsWithin) (grammar : MachineAcceptsTheGrammar) (alive : PrefixIsAlive) (fault : FaultIsFound) (deep : DepthIsFound) where
  -- A text in which there is a fault doesn't end.
  no_end : (bytes : List ℕ) (at : ℕ) → is_fault (run start (take (suc at) bytes)) ≡ true → is_end (run start bytes) ≡ false
  no_end bytes at e = by (is_end (run start bytes)) refl
    where
      by : (b : Bool) → is_end (run start bytes) ≡ b → is_end (run start bytes) ≡ false
      by false n = n
      by true n =
          let json = (grammar bytes).1 n in
          let begins : BeginsJson (take (suc at) bytes) = (drop (suc at) bytes, (json.0, json.1 ∙ sym (take-append-drop (suc at) bytes))) in
          let lives = (alive (take (suc at) bytes)).0 begins in
          absurd (cc (sym e ∙ lives))

  at_end : (bytes : List ℕ) → StaysWithin greatest_depth start bytes → (scan : Scan) × IsScanOf bytes scan
  at_end bytes stays = by (is_end (run start bytes)) refl
    where
      by : (b : Bool) → is_end (run start bytes) ≡ b → (scan : Scan) × IsScanOf bytes scan
      by true e = let json = (accepts greatest_depth bytes).1 (stays, e) in (scanned (json_of json.0), record { tree = json.0; spelled = json.1; flat = json.2; values = refl })
      by false e = (syntax_fault (length bytes), fault bytes (length bytes) (omega arith) (subst (StaysWithin greatest_depth start) (sym (take-length bytes)) stays) (λ l. absurd (omega (arith, l))) e)

  stopped_at : (bytes : List ℕ) (at : ℕ) (here : at < length bytes) → StaysWithin greatest_depth start (take at bytes)
      → (is_fault (run start (take (suc at) bytes)) ≡ true) ⊎ ((is_fault (run start (take (suc at) bytes)) ≡ false) × (greatest_depth < length (stack_of (run start (take (suc at) bytes)))))
      → (scan : Scan) × IsScanOf bytes scan
  stopped_at bytes at here stays (inl e) = (syntax_fault at, fault bytes at (omega (arith, here)) stays (λ l. e) (no_end bytes at e))
  stopped_at bytes at here stays (inr e) = (depth_fault at, deep bytes at here stays e.0 e.1)

  pub texts_have_scans : TextsHaveScans
  texts_have_scans bytes = by (goes bytes (length bytes) (omega arith))
    where
      by : StaysWithin greatest_depth start (take (length bytes) bytes) ⊎ ((at : ℕ) × StopsAt bytes at) → (scan : Scan) × IsScanOf bytes scan
      by (inl stays) = at_end bytes (subst (StaysWithin greatest_depth start) (take-length bytes) stays)
      by (inr stops) = stopped_at bytes stops.0 stops.1.here stops.1.stays stops.1.cause
