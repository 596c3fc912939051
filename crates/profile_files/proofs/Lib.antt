mod Lists
mod Results
