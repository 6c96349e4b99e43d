-- The first fault of a row of checks.
use Rattle.std.proofs.Common.{◌≡◌, ℕ, List, [], ◌∷◌, ◌++◌, Bool, true, false, None, Some, Result, Ok, Err, refl}
use Rattle.feed_meaning.specs.Locations.{Check, Json, check}
use Rattle.flex_model.specs.declared.fault.FaultCode.{FaultCode}
use Rattle.flex_model.specs.declared.fault.FaultCode.TheVariants.{GeoShape}
use Rattle.geo_json.specs.Walks.{Refuses, TellsFirst, check_named, first_fault}
use Rattle.geo_json.specs.declared.refusal.WalkRefusal.{WalkRefusal}
use Rattle.geo_json.specs.declared.refusal.WalkRefusal.TheVariants.{Fault, NoMemory}
use mathlib.Core.Path.{subst, ap, sym, ◌∙◌}

pub first_after : (a b : List Check) → first_fault a ≡ None → first_fault (a ++ b) ≡ first_fault b
first_after [] b e = refl
first_after (None ∷ a) b e = first_after a b e
first_after (Some found ∷ a) b e = absurd (cc)

pub first_stays : (a b : List Check) (found : ℕ × FaultCode) → first_fault a ≡ Some found → first_fault (a ++ b) ≡ Some found
first_stays [] b found e = absurd (cc)
first_stays (None ∷ a) b found e = first_stays a b found e
first_stays (Some other ∷ a) b found e = e

-- A refusal by the checks of a step is one by all that follow too.
pub stops : (a b : List Check) (refusal : WalkRefusal) → Refuses a refusal → Refuses (a ++ b) refusal
stops a b (Fault code place) refuses = first_stays a b (place, code) refuses
stops a b NoMemory refuses = tt

-- After checks that find nothing it is one by those that follow.
pub refuses_after : (a b : List Check) (refusal : WalkRefusal) → first_fault a ≡ None → Refuses b refusal → Refuses (a ++ b) refusal
refuses_after a b (Fault code place) none refuses = first_after a b none ∙ refuses
refuses_after a b NoMemory none refuses = tt

pub refuses_among : (a b c : List Check) (refusal : WalkRefusal) → first_fault a ≡ None → Refuses b refusal → Refuses (a ++ (b ++ c)) refusal
refuses_among a b c refusal none refuses = refuses_after a (b ++ c) refusal none (stops b c refusal refuses)

pub goes_on : {T : Type 0} (a b : List Check) (result : Result T WalkRefusal) → first_fault a ≡ None → TellsFirst b result → TellsFirst (a ++ b) result
goes_on a b (Ok value) none tells = first_after a b none ∙ tells
goes_on a b (Err refusal) none tells = refuses_after a b refusal none tells

pub told_err : {T : Type 0} (checks : List Check) (result : Result T WalkRefusal) (refusal : WalkRefusal) → result ≡ Err refusal → Refuses checks refusal → TellsFirst checks result
told_err checks result refusal is refuses = subst (TellsFirst checks) (sym is) refuses

-- One check.
pub passes : (holds : Bool) (place : ℕ) (code : FaultCode) → holds ≡ true → check holds place code ≡ None
passes true place code e = refl
passes false place code e = absurd (cc)

pub fails : (holds : Bool) (place : ℕ) (code : FaultCode) → holds ≡ false → check holds place code ≡ Some (place, code)
fails true place code e = absurd (cc)
fails false place code e = refl

pub clear : (holds : Bool) (place : ℕ) (code : FaultCode) → holds ≡ true → first_fault (check holds place code ∷ []) ≡ None
clear holds place code e = ap (λ one. first_fault (one ∷ [])) (passes holds place code e)

pub faulty : (holds : Bool) (place : ℕ) (code : FaultCode) (more : List Check) → holds ≡ false → first_fault (check holds place code ∷ more) ≡ Some (place, code)
faulty holds place code more e = ap (λ one. first_fault (one ∷ more)) (fails holds place code e)

pub clear_both : (a b : List Check) → first_fault a ≡ None → first_fault b ≡ None → first_fault (a ++ b) ≡ None
clear_both a b e f = first_after a b e ∙ f

-- A refusal that is the first fault.
pub refused : (checks : List Check) (place : ℕ) (code : FaultCode) (refusal : WalkRefusal) → refusal ≡ Fault code place → first_fault checks ≡ Some (place, code) → Refuses checks refusal
refused checks place code refusal is first = subst (Refuses checks) (sym is) first

module _ (json : Json) (object : ℕ) (name : List ℕ) (test : ℕ → Bool) where
  pub named_missing : json.member object name ≡ None → check_named json object name test ≡ Some (json.place object, GeoShape)
  named_missing e = rw e refl

  pub named_passes : (value : ℕ) → json.member object name ≡ Some value → test value ≡ true → check_named json object name test ≡ None
  named_passes value e holds = rw (e, holds) refl

  pub named_fails : (value : ℕ) → json.member object name ≡ Some value → test value ≡ false → check_named json object name test ≡ Some (json.place value, GeoShape)
  named_fails value e holds = rw (e, holds) refl
