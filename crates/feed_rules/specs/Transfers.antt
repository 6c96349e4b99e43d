-- A record of transfers.txt, as it is read, and the changes that were met.
use Rattle.std.specs.Prelude.{◌≡◌, ℕ, not, List, Option, codes, filter, map, position}
use Rattle.std.specs.Borrow.{Bor}
use Rattle.std.specs.List.{filter_map, list_any}
use Rattle.std.specs.Str.{bytes_eq}
use Rattle.field_text.specs.Grammars.{choice, count, id}
use Rattle.feed_meaning.specs.FeedRules.{is_passed_over}
use Rattle.feed_meaning.specs.Rules.{Values, are_same_pairs, both}
use Rattle.feed_rules.specs.Pairs.{has_pair}
use Rattle.feed_rules.specs.declared.transfers.Transfer.{Transfer}
use Rattle.feed_rules.specs.declared.transfers.TransferColumns.{TransferColumns}

-- the places of the columns in a header
pub record AreTransferColumns (header : List (List ℕ)) (c : TransferColumns) : Type 0 where
  pub from_stop_id : c.from_stop_id ≡ position (bytes_eq (codes "from_stop_id")) header
  pub to_stop_id : c.to_stop_id ≡ position (bytes_eq (codes "to_stop_id")) header
  pub transfer_type : c.transfer_type ≡ position (bytes_eq (codes "transfer_type")) header
  pub min_transfer_time : c.min_transfer_time ≡ position
      (bytes_eq (codes "min_transfer_time")) header
  pub from_route_id : c.from_route_id ≡ position (bytes_eq (codes "from_route_id")) header
  pub to_route_id : c.to_route_id ≡ position (bytes_eq (codes "to_route_id")) header
  pub from_trip_id : c.from_trip_id ≡ position (bytes_eq (codes "from_trip_id")) header
  pub to_trip_id : c.to_trip_id ≡ position (bytes_eq (codes "to_trip_id")) header

-- the texts and the values of a record
pub record IsReadTransfer (r : Values) (t : Transfer) : Type 0 where
  pub from : t.from.now ≡ r "from_stop_id"
  pub to : t.to.now ≡ r "to_stop_id"
  pub kind : t.kind.now ≡ r "transfer_type"
  pub kind_number : t.kind_number ≡ choice 0 5 (r "transfer_type")
  pub least_time : t.least_time.now ≡ r "min_transfer_time"
  pub seconds : t.seconds ≡ count 86400 (r "min_transfer_time")
  pub from_route : t.from_route.now ≡ r "from_route_id"
  pub to_route : t.to_route.now ≡ r "to_route_id"
  pub from_trip : t.from_trip.now ≡ r "from_trip_id"
  pub to_trip : t.to_trip.now ≡ r "to_trip_id"

-- the records that aren't passed over
abbrev pub changes : List Values → List Values
changes records = filter (λ e. not (is_passed_over e)) records

-- the stops of a record, where both are given
abbrev pub stops_of : Values → Option (List ℕ × List ℕ)
stops_of r = both (id (r "from_stop_id")) (id (r "to_stop_id"))

-- pairs of texts, the second by its value
abbrev pub texts_of : List (Bor (List ℕ) × Bor (List ℕ)) → List (Bor (List ℕ) × List ℕ)
texts_of pairs = map (λ k. (k.0, k.1.now)) pairs

-- the pairs of stops that were met are those of the records
abbrev pub AreStopsMet : List (Bor (List ℕ) × Bor (List ℕ)) → List Values → Type 0
AreStopsMet met records =
    (q : List ℕ × List ℕ) → has_pair bytes_eq (texts_of met) q ≡ list_any
    (are_same_pairs bytes_eq bytes_eq q) (filter_map stops_of records)
