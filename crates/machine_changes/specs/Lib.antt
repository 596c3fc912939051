pub mod KeptFault
