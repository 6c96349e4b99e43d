-- Files and a sink in memory, as contracts see them. The rules are this project's own.
use Rattle.std.specs.Prelude.{ℕ, List, refl}
use Rattle.std.specs.Ordering.{nat_cmp}
use Rattle.std.specs.FinMap as map
use Rattle.std.specs.FinSet as set
use Rattle.std.specs.Coded.{Coded, code_by, coded×, coded_ℕ, coded_list}
use Rattle.flex_io.specs.Outside.{FileMap}

-- what the files hold, which calls fail, how many fetches were made, and how many of them failed
pub record MemoryFiles : Type 0 where
  pub files : FileMap
  pub failing : set.FinSet nat_cmp
  pub calls : ℕ
  pub faults : ℕ

-- what was put, which calls fail and how many bytes of its piece each keeps, how many puts were
-- made, and how many of them failed
pub record MemorySink : Type 0 where
  pub bytes : List ℕ
  pub failing : map.FinMap nat_cmp ℕ
  pub calls : ℕ
  pub faults : ℕ

-- they are stored as the tuples of their fields
abbrev pub memory_files_code : Coded MemoryFiles
memory_files_code =
    code_by (FileMap × (set.FinSet nat_cmp × (ℕ × ℕ)))
    (coded× (map.code (coded_list coded_ℕ) (coded_list coded_ℕ))
    (coded× (set.code coded_ℕ) (coded× coded_ℕ coded_ℕ)))
    (λ m. (m.files, (m.failing, (m.calls, m.faults))))
    (λ p. record { files = p.0; failing = p.1.0; calls = p.1.1.0; faults = p.1.1.1 })
    (λ _. refl)

abbrev pub memory_sink_code : Coded MemorySink
memory_sink_code =
    code_by (List ℕ × (map.FinMap nat_cmp ℕ × (ℕ × ℕ)))
    (coded× (coded_list coded_ℕ) (coded× (map.code coded_ℕ coded_ℕ) (coded× coded_ℕ coded_ℕ)))
    (λ s. (s.bytes, (s.failing, (s.calls, s.faults))))
    (λ p. record { bytes = p.0; failing = p.1.0; calls = p.1.1.0; faults = p.1.1.1 })
    (λ _. refl)
