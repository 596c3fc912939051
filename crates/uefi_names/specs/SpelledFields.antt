-- For private functions of the reader: the bytes that are spelled in a field.
use Rattle.uefi_names.specs.declared.form_reader.SpelledField.{SpelledField}
use Rattle.uefi_names.specs.Read.{Spelled}

abbrev pub spelled_of : SpelledField → Spelled
spelled_of one = record { at = one.at; is_last = one.is_last; rank = one.rank; bytes = one.bytes.items }
