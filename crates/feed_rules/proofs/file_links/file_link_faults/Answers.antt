use Rattle.std.proofs.Common.{sym, ◌∙◌, rules}
use Rattle.flex_model.specs.declared.fault.InputFile.TheVariants as Files
use Rattle.feed_meaning.specs.Tables.{entries_of}
use Rattle.feed_rules.proofs.LinkedTables.{by_group_ids, by_ids, by_orders, no_link_faults}
use Rattle.feed_rules.proofs.file_links.file_link_faults.Goals as goal

pub returns-in_default : goal.returns-in_default
returns-in_default c = λ tables is ids orders given. c.new.ensures ∙ sym (no_link_faults c.args.file tables (entries_of c.args.table.now) is (search rules))

pub returns-in-Trips : goal.returns-in-Trips
returns-in-Trips c = by_ids c.trip_link_faults.result c.args.file Files.Trips (entries_of c.args.table.now) c.args.ids.now c.args.order.now c.in-Trips.is c.trip_link_faults.ensures

pub returns-in-StopTimes : goal.returns-in-StopTimes
returns-in-StopTimes c = by_orders c.stop_time_link_faults.result c.args.file Files.StopTimes (entries_of c.args.table.now) c.args.ids.now c.args.order.now c.in-StopTimes.is c.stop_time_link_faults.ensures

pub returns-in-LocationGroups : goal.returns-in-LocationGroups
returns-in-LocationGroups c = by_group_ids c.group_link_faults.result c.args.file Files.LocationGroups (entries_of c.args.table.now) c.args.ids.now c.args.order.now c.in-LocationGroups.is c.group_link_faults.ensures

pub returns-in-LocationGroupStops : goal.returns-in-LocationGroupStops
returns-in-LocationGroupStops c = by_ids c.group_stop_link_faults.result c.args.file Files.LocationGroupStops (entries_of c.args.table.now) c.args.ids.now c.args.order.now c.in-LocationGroupStops.is c.group_stop_link_faults.ensures

pub returns-in-BookingRules : goal.returns-in-BookingRules
returns-in-BookingRules c = by_ids c.booking_rule_link_faults.result c.args.file Files.BookingRules (entries_of c.args.table.now) c.args.ids.now c.args.order.now c.in-BookingRules.is c.booking_rule_link_faults.ensures

pub returns-in-Transfers : goal.returns-in-Transfers
returns-in-Transfers c = by_ids c.transfer_link_faults.result c.args.file Files.Transfers (entries_of c.args.table.now) c.args.ids.now c.args.order.now c.in-Transfers.is c.transfer_link_faults.ensures

pub returns-in-Frequencies : goal.returns-in-Frequencies
returns-in-Frequencies c = by_ids c.frequency_link_faults.result c.args.file Files.Frequencies (entries_of c.args.table.now) c.args.ids.now c.args.order.now c.in-Frequencies.is c.frequency_link_faults.ensures
