-- What an answer does to a count of faults, and which error ends a load whose fetch ended with one.
-- The rules are this project's own.
use Rattle.std.specs.Prelude.{ℕ, Result, Err}
use Rattle.flex_io.specs.Outside.{next_count}
use Rattle.flex_io.specs.declared.files.Got.{Got}
use Rattle.flex_io.specs.declared.error.FetchError.{FetchError}
use Rattle.flex_io.specs.declared.error.FetchError.TheVariants as fetch
use Rattle.flex_io.specs.declared.error.PutError.{PutError}
use Rattle.flex_io.specs.declared.error.PutError.TheVariants as put
use Rattle.flex_io.specs.declared.error.LoadError.{LoadError}
use Rattle.flex_io.specs.declared.error.LoadError.TheVariants as load

-- the count after a fetch, which rises where it failed and nowhere else
abbrev pub faults_after_fetch : Result Got FetchError → ℕ → ℕ
faults_after_fetch (Err fetch.Failed) count = next_count count
faults_after_fetch _ count = count

-- the count after a put, which rises where it failed and nowhere else
abbrev pub faults_after_put : Result (Unit {0}) PutError → ℕ → ℕ
faults_after_put (Err put.Failed) count = next_count count
faults_after_put _ count = count

-- the error of a load whose fetch ended with this error
abbrev pub load_error_of : FetchError → LoadError
load_error_of fetch.Failed = load.ReadFault
load_error_of fetch.NoMemory = load.NoMemory
