use Rattle.std.proofs.Common.{◌≡◌, ℕ, List, Option, ◌∙◌, ap, subst}
use Rattle.std.specs.Prelude.{[]}
use Rattle.std.specs.Option.{option_map_or}
use Rattle.feed_tables.specs.Fields.{value_at}
use Rattle.feed_meaning.specs.Tables.{values_of}
use Rattle.field_text.specs.Grammars.{count, moment}
use Rattle.query_io.specs.QueryFields.{column_named, walking_asked}
use Rattle.query_io.specs.QueryPlaces.{IsPlaceRead}
use Rattle.query_io.proofs.query_fields.read_fields.Goals as goal
use Prim.Native.String.{String}

-- the text that was read of a record in a column
text_is : (header fields : List (List ℕ)) (name : String) (column : Option ℕ) (text : List ℕ)
    → text ≡ option_map_or (value_at fields) column [] → column ≡ column_named header name → text ≡ values_of header fields name
text_is header fields name column text read found = read ∙ ap (λ o. option_map_or (value_at fields) o []) found

pub returns : goal.returns
returns c = λ feed times header are columns.
    let fields = c.args.row.now.fields in
    let origin = text_is header fields "origin" c.args.columns.now.origin c.value.result.now c.value.ensures (ap (λ q. q.origin) columns) in
    let destination = text_is header fields "destination" c.args.columns.now.destination c.value-2.result.now c.value-2.ensures (ap (λ q. q.destination) columns) in
    let depart = text_is header fields "depart" c.args.columns.now.depart c.value-3.result.now c.value-3.ensures (ap (λ q. q.depart) columns) in
    let asked = text_is header fields "now" c.args.columns.now.asked c.value-4.result.now c.value-4.ensures (ap (λ q. q.asked) columns) in
    let transfers = text_is header fields "transfers" c.args.columns.now.transfers c.value-5.result.now c.value-5.ensures (ap (λ q. q.transfers) columns) in
    let horizon = text_is header fields "horizon" c.args.columns.now.horizon c.value-6.result.now c.value-6.ensures (ap (λ q. q.horizon) columns) in
    let walking = text_is header fields "walking" c.args.columns.now.walking c.value-7.result.now c.value-7.ensures (ap (λ q. q.walking) columns) in
    record {
      id = text_is header fields "query_id" c.args.columns.now.id c.value-id.result.now c.value-id.ensures (ap (λ q. q.id) columns);
      origin = subst (λ t. IsPlaceRead feed times t c.read_place-origin.result) origin (c.read_place-origin.ensures feed times are);
      destination = subst (λ t. IsPlaceRead feed times t c.read_place-destination.result) destination (c.read_place-destination.ensures feed times are);
      depart = c.moment-depart.ensures ∙ ap (moment 1990 2199) depart;
      asked = c.moment-asked.ensures ∙ ap (moment 1990 2199) asked;
      transfers = c.transfers-transfers.ensures ∙ ap (count 7) transfers;
      horizon = c.horizon-horizon.ensures ∙ ap (count 2880) horizon;
      walking = c.walking-walking.ensures ∙ ap walking_asked walking;
    }
