-- What the crates above cite, by subject.
-- forms of what is given
pub use Rattle.ts_arguments.proofs.FormLemmas.{IsName, IsKey, IsWithin, IsSet}
pub use Rattle.ts_arguments.proofs.CallLemmas.{AreNames, IsKeyRange, IsNameRange, IsNameAndKey, IsKeyAndWhole}
-- each shape of arguments is a phrase that gives this form
pub use Rattle.ts_arguments.proofs.CallLemmas.{key_range_yields, name_range_yields, name_key_range_yields, with_text_yields, name_before_yields, two_names_yields, name_and_text_yields, joined_names_yields, name_stamp_and_whole_yields, key_before_yields, key_and_name_yields, key_name_stamp_and_name_yields, key_and_stamp_yields, two_names_and_whole_yields, key_stamp_and_values_yields, name_and_columns_yields, key_stamp_and_whole_yields, key_and_whole_yields, two_keys_range_yields, text_key_range_yields, text_name_range_yields, text_name_key_range_yields, key_whole_range_yields, text_key_whole_range_yields, set_before_yields, set_range_yields, set_stamp_and_values_yields, set_name_stamp_name_and_whole_yields}
-- texts are no longer than the bytes that they are read from
pub use Rattle.ts_arguments.proofs.TextLemmas.{name_text-le, first_text-le}
