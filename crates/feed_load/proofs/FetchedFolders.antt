-- The files of a feed, fetched one after another.
use Rattle.std.proofs.Common.{◌≡◌, ℕ, zero, suc, ◌+◌, ◌<◌, ◌≤◌, List, [], ◌∷◌, ◌++◌, length, get_or, map, set, take, Option, None, Some, IfSome, refl, sym, ◌∙◌, ap, subst, arith}
use Rattle.std.proofs.Math.Seq.{take-suc, take-suc-set}
use Rattle.std.proofs.lemmas.List.{map-append}
use Rattle.flex_io.specs.Outside.{FileMap}
use Rattle.flex_model.specs.declared.fault.InputFile.{InputFile}
use Rattle.flex_model.specs.declared.fault.InputFile.TheVariants.{StopTimes, Direct, ZoneText, ZoneTzif}
use Rattle.flex_model.specs.declared.fault.RawFile.{RawFile}
use Rattle.flex_model.specs.declared.fault.RawFile.TheVariants.{Absent, TooLarge, Bytes}
use Rattle.feed_meaning.specs.FeedFaults.{feed_files}
use Rattle.feed_meaning.specs.Files.{byte_limit}
use Rattle.feed_meaning.specs.Folder.{Folder}
use Rattle.feed_meaning.specs.Told.{IsWithin}
use Rattle.feed_rules.specs.Folders.{file_index}

-- the files stand at their places
pub index-is : (i : ℕ) (d : InputFile) → i < 13 → file_index (get_or feed_files i d) ≡ i
index-is zero d low = refl
index-is (suc zero) d low = refl
index-is (suc (suc zero)) d low = refl
index-is (suc (suc (suc zero))) d low = refl
index-is (suc (suc (suc (suc zero)))) d low = refl
index-is (suc (suc (suc (suc (suc zero))))) d low = refl
index-is (suc (suc (suc (suc (suc (suc zero)))))) d low = refl
index-is (suc (suc (suc (suc (suc (suc (suc zero))))))) d low = refl
index-is (suc (suc (suc (suc (suc (suc (suc (suc zero)))))))) d low = refl
index-is (suc (suc (suc (suc (suc (suc (suc (suc (suc zero))))))))) d low = refl
index-is (suc (suc (suc (suc (suc (suc (suc (suc (suc (suc zero)))))))))) d low = refl
index-is (suc (suc (suc (suc (suc (suc (suc (suc (suc (suc (suc zero))))))))))) d low = refl
index-is (suc (suc (suc (suc (suc (suc (suc (suc (suc (suc (suc (suc zero)))))))))))) d low = refl
index-is (suc (suc (suc (suc (suc (suc (suc (suc (suc (suc (suc (suc (suc i))))))))))))) d low = absurd (omega (arith, low))

-- no limit is above 2^32 - 1
limit-few : (file : InputFile) → byte_limit file ≤ 4294967295
limit-few StopTimes = omega arith
limit-few Direct = omega arith
limit-few ZoneText = omega arith
limit-few ZoneTzif = omega arith
limit-few file = omega arith

pub within-few : (file : InputFile) (raw : RawFile) → IsWithin (byte_limit file) raw → IsWithin 4294967295 raw
within-few file Absent within = tt
within-few file TooLarge within = tt
within-few file (Bytes bytes) within = let few = limit-few file in omega (arith, few, within)

-- one file more
pub set-next : (f : Folder) (raws : List RawFile) (i : ℕ) (d : InputFile) (raw : RawFile) → i < 13 → length raws ≡ 13 → raw ≡ f (get_or feed_files i d)
    → take i raws ≡ map f (take i feed_files) → take (i + 1) (set raws (file_index (get_or feed_files i d)) raw) ≡ map f (take (i + 1) feed_files)
set-next f raws i d raw low size is earlier =
    let more : i + 1 ≡ suc i = omega arith in
    ap (λ p. take (i + 1) (set raws p raw)) (index-is i d low)
    ∙ ap (λ n. take n (set raws i raw)) more
    ∙ take-suc-set raws i raw (omega (arith, low, size))
    ∙ ap (λ xs. xs ++ raw ∷ []) earlier
    ∙ ap (λ x. map f (take i feed_files) ++ x ∷ []) is
    ∙ sym (map-append f (take i feed_files) (get_or feed_files i d ∷ []))
    ∙ ap (map f) (sym (take-suc feed_files i d low))
    ∙ ap (λ n. map f (take n feed_files)) (sym more)

-- two facts of the files told, where no step changed what is told
pub told_both : (before now : Option FileMap) (P Q R : FileMap → Type 0) → now ≡ before → IfSome before P → IfSome now Q
    → ((files : FileMap) → P files → Q files → R files) → IfSome before R
told_both before now P Q R same p q leads = by before p (subst (λ o. IfSome o Q) same q)
  where
    by : (o : Option FileMap) → IfSome o P → IfSome o Q → IfSome o R
    by None p q = tt
    by (Some files) p q = leads files p q
